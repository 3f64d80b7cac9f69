-- Tickets that count up from a number.
use Rattle.std.proofs.Common.{◌≡◌, ◌<◌, ◌≤◌, ◌+◌, ◌%◌, ◌^◌, ℕ, suc, inl, inr, List, [], ◌∷◌, ◌++◌, length, map, Bool, true, false, cond, if◌then◌else◌, Some, refl, sym, ap, ◌∙◌, subst, eq-eqb, ne_eqb, length-append, append_assoc, arith}
use Rattle.std.specs.Prelude.{All, slice_get}
use Rattle.std.proofs.lemmas.Bool.{cases_eq}
use Rattle.std.proofs.lemmas.List.Elements.{All-nil, All-cons}
use Rattle.mz_tape.specs.declared.entry.Entry.{Entry}
use Rattle.mz_tape.specs.declared.entry.Kind.{Kind}
use Rattle.mz_tape.specs.declared.entry.Kind.TheVariants.{Print}
use Rattle.mz_words.specs.Answers.{HasSeen, word_then, word_after}
use Rattle.mz_words.specs.Interleavings.{step_of, AllAgree}
use Rattle.mz_words.specs.Tickets.{is_print, prints_among}
use Rattle.mz_words.specs.Tickets.{IsOnItsWord, KeepTickets}
use Rattle.mz_print.proofs.Placing.{drawn, drawn_here, drawn_elsewhere, StandsIn}

-- the tickets are n, n + 1, and so on
abbrev pub CountUp : ℕ → List Entry → Type 0
CountUp n [] = Unit {0}
CountUp n (e ∷ es) = (e.seen ≡ n) × CountUp (suc n) es

-- what an entry is to the word of the tickets: a print saw it and raises it, and any other entry leaves it
abbrev pub Ticks : Bool → ℕ → ℕ → ℕ → Type 0
Ticks true seen old new = (seen ≡ old) × (new ≡ (old + 1) % 2 ^ 64)
Ticks false seen old new = new ≡ old

ticks : (kind : Kind) (place value seen : ℕ) (word : ℕ → ℕ) → IsOnItsWord kind place → HasSeen kind seen (word place)
    → Ticks (is_print kind) seen (word 4) (word_then (Some (record { place = place; kind = kind; value = value })) word 4)
ticks Print place value seen word at saw = (saw ∙ ap word at, ap (λ (b : Bool). if b then (word 4 + 1) % 2 ^ 64 else word 4) (eq-eqb place 4 at))
ticks kind place value seen word at saw = ap (λ (b : Bool). if b then word_after kind value (word 4) else word 4) (ne_eqb place 4 at)

small_mod : (n : ℕ) → n < 2 ^ 64 → n % 2 ^ 64 ≡ n
small_mod n h = omega (arith, h)

-- the prints behind an entry count up, and so do those with it
ticks_up : (b : Bool) (e : Entry) (es : List Entry) (n new : ℕ) → Ticks b e.seen n new → n + length (cond b (e ∷ es) es) < 2 ^ 64 → ((m : ℕ) → new ≡ m → m + length es < 2 ^ 64 → CountUp m es) → CountUp n (cond b (e ∷ es) es)
ticks_up true e es n new t few rest = (t.0, rest (suc n) (t.1 ∙ small_mod (n + 1) (omega (arith, few)) ∙ omega arith) (omega (arith, few)))
ticks_up false e es n new t few rest = rest n t few

pub count_up : (h : List Entry) (word : ℕ → ℕ) (n : ℕ) → AllAgree word h → KeepTickets h → word 4 ≡ n → n + length (prints_among h) < 2 ^ 64 → CountUp n (prints_among h)
count_up [] word n agree keep at few = tt
count_up (e ∷ h) word n agree keep at few =
    let after = word_then (Some (step_of e)) word in
    ticks_up (is_print e.kind) e (prints_among h) n (after 4)
    (subst (λ m. Ticks (is_print e.kind) e.seen m (after 4)) at (ticks e.kind e.place e.value e.seen word keep.0 agree.1)) few
    (λ m here less. count_up h after m agree.2 keep.1 here less)

-- ---- what tickets are that count up

none_before : (es : List Entry) (n ticket : ℕ) → CountUp n es → ticket < n → drawn ticket es ≡ 0
none_before [] n ticket up h = refl
none_before (e ∷ es) n ticket up h = drawn_elsewhere ticket e es (λ z. omega (arith, h, up.0, z)) ∙ ap (λ m. 0 + m) (none_before es (suc n) ticket up.1 (omega (arith, h)))

pub one_each : (es : List Entry) (n ticket : ℕ) → CountUp n es → n ≤ ticket → ticket < n + length es → drawn ticket es ≡ 1
one_each [] n ticket up low high = absurd (omega (arith, low, high))
one_each (e ∷ es) n ticket up low high = elim (cases_eq e.seen ticket) [
  | inl here ↦ drawn_here ticket e es here ∙ ap (λ m. 1 + m) (none_before es (suc n) ticket up.1 (omega (arith, here, up.0)))
  | inr other ↦ drawn_elsewhere ticket e es other ∙ ap (λ m. 0 + m) (one_each es (suc n) ticket up.1 (omega (arith, low, other, up.0)) (omega (arith, high)))
]

pub all_below : (es : List Entry) (n m : ℕ) → CountUp n es → n + length es ≤ m → All (λ e. e.seen < m) es
all_below [] n m up h = All-nil (λ e. e.seen < m)
all_below (e ∷ es) n m up h = All-cons (λ x. x.seen < m) e es (omega (arith, up.0, h)) (all_below es (suc n) m up.1 (omega (arith, h)))

get_here : (front rest : List ℕ) (v : ℕ) → slice_get (front ++ v ∷ rest) (length front) ≡ Some v
get_here [] rest v = refl
get_here (x ∷ front) rest v = get_here front rest v

pub all_stand : (es : List Entry) (front : List ℕ) → CountUp (length front) es → All (StandsIn (front ++ map (λ e. e.value) es)) es
all_stand [] front up = All-nil (StandsIn (front ++ []))
all_stand (e ∷ es) front up =
    let values : List ℕ = map (λ (x : Entry). x.value) es in
    All-cons (StandsIn (front ++ e.value ∷ values)) e es (ap (slice_get (front ++ e.value ∷ values)) up.0 ∙ get_here front values e.value)
    (subst (λ l. All (StandsIn l) es) (append_assoc front (e.value ∷ []) values)
    (all_stand es (front ++ e.value ∷ []) (subst (λ n. CountUp n es) (sym (length-append front (e.value ∷ []) ∙ omega arith)) up.1)))
