-- Numbers that are put at the tickets of prints, one print after the other: each is still there at the end, since no ticket
-- comes twice.
use Rattle.std.proofs.Common.{◌≡◌, ◌≢◌, ◌<◌, ◌≤◌, ◌==◌, ◌+◌, ℕ, zero, suc, inl, inr, List, [], ◌∷◌, ◌++◌, length, drop, get_or, Bool, true, false, cond, Some, refl, sym, ap, ◌∙◌, subst, eq-eqb, ne_eqb, length-set, replicate, arith}
use Rattle.std.specs.Prelude.{All, count_by, slice_get, slice_set}
use Rattle.std.proofs.lemmas.Bool.{cases_eq}
use Rattle.std.proofs.lemmas.List.{drop_more, same_lists, length-replicate}
use Rattle.std.proofs.lemmas.Option.{get_or_from_slice_get}
use Rattle.std.proofs.lemmas.List.Elements.{All-nil, All-cons, All-head, All-tail, filter-append}
use Rattle.std.proofs.lemmas.List.Sums.{sum_by-cons}
use Rattle.mz_tape.specs.Tapes.{TapeView}
use Rattle.mz_tape.specs.declared.entry.Entry.{Entry}
use Rattle.mz_words.specs.declared.reports.Report.{Report}
use Rattle.mz_words.specs.Tickets.{is_print, prints_among}
use Rattle.mz_print.specs.Prints.{all_entries, prints_in, TicketsAreInOrder, PrintsOf}
use Rattle.mz_print.specs.Laws.{PrintsAreOne}

abbrev pub put : Bool → Entry → List ℕ → List ℕ
put true e ns = slice_set ns e.seen e.value
put false e ns = ns

abbrev pub placed : List Entry → List ℕ → List ℕ
placed [] ns = ns
placed (e ∷ es) ns = placed es (put (is_print e.kind) e ns)

-- each ticket is below n
abbrev pub AreBelow : ℕ → List Entry → Type 0
AreBelow n = All (λ e. e.seen < n)

-- ---- one part after the other, one entry after the other

pub placed-append : (es fs : List Entry) (ns : List ℕ) → placed (es ++ fs) ns ≡ placed fs (placed es ns)
placed-append [] fs ns = refl
placed-append (e ∷ es) fs ns = placed-append es fs (put (is_print e.kind) e ns)

split_all : (P : Entry → Type 0) (xs ys : List Entry) → All P (xs ++ ys) → All P xs × All P ys
split_all P [] ys a = (All-nil P, a)
split_all P (x ∷ xs) ys a = let r = split_all P xs ys (All-tail P x (xs ++ ys) a) in (All-cons P x xs (All-head P x (xs ++ ys) a) r.0, r.1)

-- the part at k, and those behind it
at_part : (parts : List TapeView) (k : ℕ) (part : TapeView) → k < length parts → part ≡ get_or parts k part → drop k parts ≡ part ∷ drop (k + 1) parts
at_part parts k part within here = drop_more parts k part within ∙ ap (λ x. x ∷ drop (k + 1) parts) (sym here)

pub below_parts : (n : ℕ) (parts : List TapeView) (k : ℕ) (part : TapeView) → k < length parts → part ≡ get_or parts k part → AreBelow n (prints_among (all_entries (drop k parts)))
    → AreBelow n (prints_among part.list) × AreBelow n (prints_among (all_entries (drop (k + 1) parts)))
below_parts n parts k part within here a = split_all (λ e. e.seen < n) (prints_among part.list) (prints_among (all_entries (drop (k + 1) parts)))
    (subst (AreBelow n) (ap (λ x. prints_among (all_entries x)) (at_part parts k part within here) ∙ filter-append (λ (e : Entry). is_print e.kind) part.list (all_entries (drop (k + 1) parts))) a)

pub placed_part : (parts : List TapeView) (k : ℕ) (part : TapeView) → k < length parts → part ≡ get_or parts k part → (ns : List ℕ) → placed (all_entries (drop k parts)) ns ≡ placed (all_entries (drop (k + 1) parts)) (placed part.list ns)
placed_part parts k part within here ns = ap (λ x. placed (all_entries x) ns) (at_part parts k part within here) ∙ placed-append part.list (all_entries (drop (k + 1) parts)) ns

below_at : (b : Bool) (n : ℕ) (e : Entry) (es : List Entry) → AreBelow n (cond b (e ∷ es) es) → AreBelow n es
below_at true n e es a = All-tail (λ x. x.seen < n) e es a
below_at false n e es a = a

pub below_rest : (n : ℕ) (es fs : List Entry) (e : Entry) → es ≡ e ∷ fs → AreBelow n (prints_among es) → AreBelow n (prints_among fs)
below_rest n es fs e here a = below_at (is_print e.kind) n e (prints_among fs) (subst (λ x. AreBelow n (prints_among x)) here a)

pub placed_print : (es fs : List Entry) (e : Entry) (ns : List ℕ) → es ≡ e ∷ fs → is_print e.kind ≡ true → placed es ns ≡ placed fs (slice_set ns e.seen e.value)
placed_print es fs e ns here print = ap (λ x. placed x ns) here ∙ ap (λ b. placed fs (put b e ns)) print

-- ---- what stands where

get_set_same : (ns : List ℕ) (i v : ℕ) → i < length ns → slice_get (slice_set ns i v) i ≡ Some v
get_set_same [] i v h = absurd (omega (arith, h))
get_set_same (n ∷ ns) zero v h = refl
get_set_same (n ∷ ns) (suc i) v h = get_set_same ns i v (omega (arith, h))

get_set_other : (ns : List ℕ) (i v j : ℕ) → i ≢ j → slice_get (slice_set ns i v) j ≡ slice_get ns j
get_set_other [] i v j d = refl
get_set_other (n ∷ ns) zero v zero d = absurd (d refl)
get_set_other (n ∷ ns) zero v (suc j) d = refl
get_set_other (n ∷ ns) (suc i) v zero d = refl
get_set_other (n ∷ ns) (suc i) v (suc j) d = get_set_other ns i v j (λ e. d (ap suc e))

-- how often a ticket was drawn
abbrev pub drawn : ℕ → List Entry → ℕ
drawn ticket es = count_by (λ e. e.seen == ticket) es

drawn-cons : (ticket : ℕ) (e : Entry) (es : List Entry) → drawn ticket (e ∷ es) ≡ cond (e.seen == ticket) 1 0 + drawn ticket es
drawn-cons ticket e es = sum_by-cons (λ (x : Entry). cond (x.seen == ticket) 1 0) e es

pub drawn_here : (ticket : ℕ) (e : Entry) (es : List Entry) → e.seen ≡ ticket → drawn ticket (e ∷ es) ≡ 1 + drawn ticket es
drawn_here ticket e es h = drawn-cons ticket e es ∙ ap (λ (b : Bool). cond b 1 0 + drawn ticket es) (eq-eqb e.seen ticket h)

pub drawn_elsewhere : (ticket : ℕ) (e : Entry) (es : List Entry) → e.seen ≢ ticket → drawn ticket (e ∷ es) ≡ 0 + drawn ticket es
drawn_elsewhere ticket e es h = drawn-cons ticket e es ∙ ap (λ (b : Bool). cond b 1 0 + drawn ticket es) (ne_eqb e.seen ticket h)

drawn_less : (ticket : ℕ) (e : Entry) (es : List Entry) → drawn ticket es ≤ drawn ticket (e ∷ es)
drawn_less ticket e es = elim (cases_eq e.seen ticket) [
  | inl h ↦ omega (arith, drawn_here ticket e es h)
  | inr h ↦ omega (arith, drawn_elsewhere ticket e es h)
]

-- no number is put at a ticket that nobody drew
untouched_at : (b : Bool) (e : Entry) (es : List Entry) (ns : List ℕ) (ticket : ℕ) → ((ms : List ℕ) → drawn ticket (prints_among es) ≡ 0 → slice_get (placed es ms) ticket ≡ slice_get ms ticket)
    → drawn ticket (cond b (e ∷ prints_among es) (prints_among es)) ≡ 0 → slice_get (placed es (put b e ns)) ticket ≡ slice_get ns ticket
untouched_at false e es ns ticket rest h = rest ns h
untouched_at true e es ns ticket rest h =
    rest (slice_set ns e.seen e.value) (omega (arith, h, drawn_less ticket e (prints_among es)))
    ∙ get_set_other ns e.seen e.value ticket (λ same. omega (arith, h, drawn_here ticket e (prints_among es) same))

untouched : (es : List Entry) (ns : List ℕ) (ticket : ℕ) → drawn ticket (prints_among es) ≡ 0 → slice_get (placed es ns) ticket ≡ slice_get ns ticket
untouched [] ns ticket h = refl
untouched (e ∷ es) ns ticket h = untouched_at (is_print e.kind) e es ns ticket (λ ms. untouched es ms ticket) h

length_put : (b : Bool) (e : Entry) (ns : List ℕ) → length (put b e ns) ≡ length ns
length_put true e ns = length-set ns e.seen e.value
length_put false e ns = refl

pub length_placed : (es : List Entry) (ns : List ℕ) → length (placed es ns) ≡ length ns
length_placed [] ns = refl
length_placed (e ∷ es) ns = length_placed es (put (is_print e.kind) e ns) ∙ length_put (is_print e.kind) e ns

-- at its ticket stands the number of the print
abbrev pub StandsIn : List ℕ → Entry → Type 0
StandsIn numbers e = slice_get numbers e.seen ≡ Some e.value

-- what is needed of the entries that are still to come, and what then holds at the end
abbrev pub StandsBehind : List Entry → List Entry → List ℕ → Type 0
StandsBehind prints es ns = AreBelow (length ns) prints → ((ticket : ℕ) → ticket < length ns → drawn ticket prints ≤ 1) → All (StandsIn (placed es ns)) prints

stands_at : (b : Bool) (e : Entry) (es : List Entry) (ns : List ℕ) → ((ms : List ℕ) → StandsBehind (prints_among es) es ms)
    → AreBelow (length ns) (cond b (e ∷ prints_among es) (prints_among es)) → ((ticket : ℕ) → ticket < length ns → drawn ticket (cond b (e ∷ prints_among es) (prints_among es)) ≤ 1)
    → All (StandsIn (placed es (put b e ns))) (cond b (e ∷ prints_among es) (prints_among es))
stands_at false e es ns rest below once = rest ns below once
stands_at true e es ns rest below once =
    let ms = slice_set ns e.seen e.value in
    let long = length-set ns e.seen e.value in
    let here = All-head (λ x. x.seen < length ns) e (prints_among es) below in
    All-cons (StandsIn (placed es ms)) e (prints_among es)
    (untouched es ms e.seen (omega (arith, once e.seen here, drawn_here e.seen e (prints_among es) refl)) ∙ get_set_same ns e.seen e.value here)
    (rest ms (subst (λ n. AreBelow n (prints_among es)) (sym long) (All-tail (λ x. x.seen < length ns) e (prints_among es) below))
    (λ ticket h. omega (arith, once ticket (subst (λ n. ticket < n) long h), drawn_less ticket e (prints_among es))))

each_stands : (es : List Entry) (ns : List ℕ) → StandsBehind (prints_among es) es ns
each_stands [] ns below once = All-nil (StandsIn ns)
each_stands (e ∷ es) ns below once = stands_at (is_print e.kind) e es ns (each_stands es) below once

-- the numbers that are put into as many places as there are prints
pub prints_placed : (r : Report) (numbers : List ℕ) → TicketsAreInOrder r → numbers ≡ placed (all_entries r.parts) (replicate (length (prints_in r)) 0) → PrintsOf r numbers
prints_placed r numbers tickets is =
    let zeros : List ℕ = replicate (length (prints_in r)) 0 in
    let long : length zeros ≡ length (prints_in r) = length-replicate (length (prints_in r)) 0 in
    record {
      many = ap length is ∙ length_placed (all_entries r.parts) zeros ∙ long;
      each = subst (λ x. All (StandsIn x) (prints_in r)) (sym is)
          (each_stands (all_entries r.parts) zeros (subst (λ n. AreBelow n (prints_in r)) (sym long) tickets.within) (λ ticket h. omega (arith, tickets.once ticket (subst (λ n. ticket < n) long h))));
    }

-- ---- a ticket that was drawn

pub at_ticket : (P : Entry → Type 0) (es : List Entry) (ticket n : ℕ) → drawn ticket es ≡ suc n → All P es → (e : Entry) × (e.seen ≡ ticket) × P e
at_ticket P [] ticket n h a = absurd (omega (arith, h))
at_ticket P (e ∷ es) ticket n h a = elim (cases_eq e.seen ticket) [
  | inl same ↦ (e, same, All-head P e es a)
  | inr other ↦ at_ticket P es ticket n (omega (arith, h, drawn_elsewhere ticket e es other)) (All-tail P e es a)
]

pub one_list : PrintsAreOne
one_list r xs ys tickets p q = same_lists xs ys (p.many ∙ sym q.many) (λ k d h.
    let z = at_ticket (λ e. StandsIn xs e × StandsIn ys e) (prints_in r) k 0 (tickets.once k (subst (λ n. k < n) p.many h)) (λ i e within. (p.each i e within, q.each i e within)) in
    let x : slice_get xs k ≡ Some z.0.value = subst (λ n. slice_get xs n ≡ Some z.0.value) z.1 z.2.0 in
    let y : slice_get ys k ≡ Some z.0.value = subst (λ n. slice_get ys n ≡ Some z.0.value) z.1 z.2.1 in
    get_or_from_slice_get xs k z.0.value d x ∙ sym (get_or_from_slice_get ys k z.0.value d y))
