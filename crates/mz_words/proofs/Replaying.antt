-- Each thread of a run is where the replay of its own part leaves it: an event of another thread leaves it where it is, and
-- makes no entry of its.
use Rattle.std.proofs.Common.{◌≡◌, ◌≢◌, ◌==◌, inl, inr, ℕ, List, [], ◌∷◌, ◌++◌, Option, Some, None, Bool, true, false, refl, sym, ap, ◌∙◌, subst, eq-eqb, ne_eqb}
use Rattle.std.specs.Prelude.{if◌then◌else◌}
use Rattle.std.proofs.lemmas.Bool.{cases_eq}
use Rattle.mz_tape.specs.declared.entry.Entry.{Entry}
use Rattle.mz_words.specs.declared.asks.Ask.{Ask}
use Rattle.mz_words.specs.declared.asks.Answer.{Answer}
use Rattle.mz_words.specs.declared.asks.Answer.TheVariants.{Saw, Quiet, Missed, Refused}
use Rattle.mz_words.specs.Standing.{Standing}
use Rattle.mz_words.specs.Steps.{ask, take_step}
use Rattle.mz_words.specs.Answers.{Move, moved}
use Rattle.mz_words.specs.Raw.{No_events, More_events}
use Rattle.mz_words.specs.Replays.{Follows, Follows_start, Follows_on, entries, entry_of}
use Rattle.mz_words.specs.Histories.{history}
use Rattle.mz_words.specs.Interleavings.{part_of}
use Rattle.mz_words.specs.Laws.{PartsFollow}
use Rattle.mz_words.proofs.Events.{if_is, nil_right}

part_front : (b : Bool) (e : Entry) (xs ys : List Entry) → (if b then e ∷ (xs ++ ys) else xs ++ ys) ≡ (if b then e ∷ xs else xs) ++ ys
part_front true e xs ys = refl
part_front false e xs ys = refl

-- the part of two lists is that of the one and then that of the other
pub part_append : (k : ℕ) (xs ys : List Entry) → part_of k (xs ++ ys) ≡ part_of k xs ++ part_of k ys
part_append k [] ys = refl
part_append k (x ∷ xs) ys = ap (λ (l : List Entry). if x.actor == k then x ∷ l else l) (part_append k xs ys) ∙ part_front (x.actor == k) x (part_of k xs) (part_of k ys)

-- the entries of an answer are all of one actor
mine_move : (k : ℕ) (m : Option Move) (n : ℕ) → part_of k (entry_of k m n) ≡ entry_of k m n
mine_move k None n = refl
mine_move k (Some m) n = if_is (k == k) true (eq-eqb k k refl) (entry_of k (Some m) n) []

mine_entries : (k : ℕ) (a : Ask) (answer : Answer) → part_of k (entries k a answer) ≡ entries k a answer
mine_entries k a (Saw n) = mine_move k (moved a (Saw n)) n
mine_entries k a Quiet = refl
mine_entries k a Missed = refl
mine_entries k a Refused = refl

other_move : (k j : ℕ) → j ≢ k → (m : Option Move) (n : ℕ) → part_of k (entry_of j m n) ≡ []
other_move k j d None n = refl
other_move k j d (Some m) n = if_is (j == k) false (ne_eqb j k d) (entry_of j (Some m) n) []

other_entries : (k j : ℕ) → j ≢ k → (a : Ask) (answer : Answer) → part_of k (entries j a answer) ≡ []
other_entries k j d a (Saw n) = other_move k j d (moved a (Saw n)) n
other_entries k j d a Quiet = refl
other_entries k j d a Missed = refl
other_entries k j d a Refused = refl

pub mine_more : (k : ℕ) (h : List Entry) (a : Ask) (answer : Answer) → part_of k (h ++ entries k a answer) ≡ part_of k h ++ entries k a answer
mine_more k h a answer = part_append k h (entries k a answer) ∙ ap (λ (l : List Entry). part_of k h ++ l) (mine_entries k a answer)

pub other_more : (k j : ℕ) → j ≢ k → (h : List Entry) (a : Ask) (answer : Answer) → part_of k (h ++ entries j a answer) ≡ part_of k h
other_more k j d h a answer = part_append k h (entries j a answer) ∙ ap (λ (l : List Entry). part_of k h ++ l) (other_entries k j d a answer) ∙ nil_right (part_of k h)

pub replays : PartsFollow
replays c o first s q No_events k = subst (λ (x : Standing). Follows c o k [] x) (sym (q.thread k)) Follows_start
replays c o first s q (More_events s1 _ j answer es e) k = elim (cases_eq k j) [
  | inl z ↦ subst (λ x. Follows c o x (part_of x (history es ++ entries j (ask c o j (s1.thread j)) answer)) (s.thread x)) (sym z)
      (subst (λ (x : Standing). Follows c o j (part_of j (history es ++ entries j (ask c o j (s1.thread j)) answer)) x) (sym e.mine)
      (subst (λ (l : List Entry). Follows c o j l (take_step c o j (s1.thread j) answer)) (sym (mine_more j (history es) (ask c o j (s1.thread j)) answer))
      (Follows_on (part_of j (history es)) (s1.thread j) answer (replays c o first s1 q es j) e.may)))
  | inr z ↦ subst (λ (l : List Entry). Follows c o k l (s.thread k)) (sym (other_more k j (λ x. z (sym x)) (history es) (ask c o j (s1.thread j)) answer))
      (subst (λ (x : Standing). Follows c o k (part_of k (history es)) x) (sym (e.others k z)) (replays c o first s1 q es k))
]
