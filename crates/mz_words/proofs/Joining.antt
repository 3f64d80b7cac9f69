-- The entries of a run interleave: each event sees the words that the entries before it lead to.
use Rattle.std.proofs.Common.{◌≡◌, ◌<◌, ℕ, List, [], ◌∷◌, ◌++◌, Option, Some, None, refl, sym, ◌∙◌, subst}
use Rattle.mz_tape.specs.declared.entry.Entry.{Entry}
use Rattle.mz_words.specs.declared.asks.Ask.{Ask}
use Rattle.mz_words.specs.declared.asks.Ask.TheVariants.{Local, Frames, Looks, Starts, Loads, Adds, Stores, Tries, Prints, Stops, Leaves, Nothing}
use Rattle.mz_words.specs.declared.asks.Answer.{Answer}
use Rattle.mz_words.specs.declared.asks.Answer.TheVariants.{Saw, Quiet, Missed, Refused}
use Rattle.mz_words.specs.Steps.{ask}
use Rattle.mz_words.specs.Answers.{Agrees, AgreesBy, Move, move_of, moved, word_then}
use Rattle.mz_words.specs.Raw.{No_events, More_events}
use Rattle.mz_words.specs.Replays.{entries, entry_of}
use Rattle.mz_words.specs.Histories.{history}
use Rattle.mz_words.specs.Interleavings.{step_of, IsAt, FewActors, AllAgree, words_after}
use Rattle.mz_words.specs.Laws.{RunsInterleave}
use Rattle.mz_words.proofs.Weaving.{all_on, after_same}

few_append : (xs ys : List Entry) → FewActors xs → FewActors ys → FewActors (xs ++ ys)
few_append [] ys f g = g
few_append (x ∷ xs) ys f g = (f.0, few_append xs ys f.1 g)

agree_append : (f : ℕ → ℕ) (xs ys : List Entry) → AllAgree f xs → AllAgree (words_after f xs) ys → AllAgree f (xs ++ ys)
agree_append f [] ys a b = b
agree_append f (x ∷ xs) ys a b = (a.0, a.1, agree_append (word_then (Some (step_of x)) f) xs ys a.2 b)

pub after_append : (f : ℕ → ℕ) (xs ys : List Entry) (p : ℕ) → words_after f (xs ++ ys) p ≡ words_after (words_after f xs) ys p
after_append f [] ys p = refl
after_append f (x ∷ xs) ys p = after_append (word_then (Some (step_of x)) f) xs ys p

-- ---- the entry of one answer, if there is one

some_move : {x y : Move} → Some x ≡ Some y → x ≡ y
some_move q = cc

is_at : {x m : Move} → Some x ≡ Some m → IsAt x.kind x.place → IsAt m.kind m.place
is_at {x} {m} e h = subst (λ (y : Move). IsAt y.kind y.place) (some_move e) h

few_move : (k : ℕ) → k < 64 → (m : Option Move) (n : ℕ) → FewActors (entry_of k m n)
few_move k h None n = tt
few_move k h (Some m) n = (h, tt)

few_entries : (k : ℕ) → k < 64 → (a : Ask) (answer : Answer) → FewActors (entries k a answer)
few_entries k h a (Saw n) = few_move k h (moved a (Saw n)) n
few_entries k h a Quiet = tt
few_entries k h a Missed = tt
few_entries k h a Refused = tt

-- a print is at the word of tickets
at_move : (a : Ask) (m : Move) → move_of a ≡ Some m → IsAt m.kind m.place
at_move (Looks p until) m e = is_at e tt
at_move (Starts p) m e = is_at e tt
at_move (Loads p) m e = is_at e tt
at_move (Adds p v) m e = is_at e tt
at_move (Stores p v) m e = is_at e tt
at_move (Tries p) m e = is_at e tt
at_move (Prints v) m e = is_at e refl
at_move Stops m e = is_at e tt
at_move Leaves m e = is_at e tt
at_move Local m e = absurd (cc)
at_move (Frames n) m e = absurd (cc)
at_move Nothing m e = absurd (cc)

agree_move : (k : ℕ) (x : Option Move) (n : ℕ) (f : ℕ → ℕ) → ((m : Move) → x ≡ Some m → IsAt m.kind m.place) → AgreesBy x n f → AllAgree f (entry_of k x n)
agree_move k None n f w h = tt
agree_move k (Some m) n f w h = (w m refl, h, tt)

agree_entries : (k : ℕ) (a : Ask) (answer : Answer) (f : ℕ → ℕ) → Agrees a answer f → AllAgree f (entries k a answer)
agree_entries k a (Saw n) f h = agree_move k (move_of a) n f (at_move a) h
agree_entries k a Quiet f h = tt
agree_entries k a Missed f h = tt
agree_entries k a Refused f h = tt

after_move : (k : ℕ) (m : Option Move) (n : ℕ) (f : ℕ → ℕ) (p : ℕ) → words_after f (entry_of k m n) p ≡ word_then m f p
after_move k None n f p = refl
after_move k (Some m) n f p = refl

after_entries : (k : ℕ) (a : Ask) (answer : Answer) (f : ℕ → ℕ) (p : ℕ) → words_after f (entries k a answer) p ≡ word_then (moved a answer) f p
after_entries k a (Saw n) f p = after_move k (move_of a) n f p
after_entries k a Quiet f p = refl
after_entries k a Missed f p = refl
after_entries k a Refused f p = refl

-- ---- of all events

pub interleaves : RunsInterleave
interleaves c o first s No_events = record { actors = tt; agree = tt; closing = λ p. refl }
interleaves c o first s (More_events s1 _ k answer es e) =
    let r = interleaves c o first s1 es in
    let a = ask c o k (s1.thread k) in
    record {
      actors = few_append (history es) (entries k a answer) r.actors (few_entries k e.number a answer);
      agree = agree_append first.word (history es) (entries k a answer) r.agree (all_on c o s1.word (words_after first.word (history es)) (entries k a answer) r.closing (agree_entries k a answer s1.word e.agrees));
      closing = λ p. after_append first.word (history es) (entries k a answer) p
          ∙ after_same c o s1.word (words_after first.word (history es)) (entries k a answer) r.closing p
          ∙ after_entries k a answer s1.word p ∙ sym (e.words p);
    }
