-- A thread and its answer determine the event: the state behind it is computed.
use Rattle.std.proofs.Common.{◌≡◌, ◌<◌, ◌==◌, ℕ, List, [], ◌∷◌, ◌++◌, Option, Some, None, Bool, true, false, refl, sym, ap, ◌∙◌, subst, eq-eqb, ne_eqb, append_assoc}
use Rattle.std.specs.Prelude.{slice_get, if◌then◌else◌}
use Rattle.mz_tape.specs.declared.entry.Entry.{Entry}
use Rattle.mz_words.specs.declared.code.Code.{Code}
use Rattle.mz_words.specs.declared.options.Options.{Options}
use Rattle.mz_words.specs.declared.asks.Ask.{Ask}
use Rattle.mz_words.specs.declared.asks.Answer.{Answer}
use Rattle.mz_words.specs.declared.asks.Answer.TheVariants.{Saw, Quiet, Missed, Refused}
use Rattle.mz_words.specs.Steps.{ask, take_step}
use Rattle.mz_words.specs.Answers.{May, Agrees, Move, moved, move_of, AgreesBy, HasSeen, word_then, word_after}
use Rattle.mz_words.specs.Raw.{Raw, Event, Events, No_events, More_events, completed_at, blocks_then, born_at, printed}
use Rattle.mz_words.specs.Replays.{entries}
use Rattle.mz_words.specs.Histories.{history}

-- the state after an answer
abbrev pub next_raw : Code → Options → Raw → ℕ → Answer → Raw
next_raw c o s k answer = record {
  word = word_then (moved (ask c o k (s.thread k)) answer) s.word;
  thread = λ j. if j == k then take_step c o k (s.thread k) answer else s.thread j;
  blocks = blocks_then (completed_at (s.thread k).stage (slice_get c.instrs (s.thread k).at) answer) s.blocks;
  born = s.born ++ born_at (s.thread k).stage answer;
  prints = s.prints ++ printed (ask c o k (s.thread k)) answer;
}

-- a choice by a test whose outcome is known
pub if_is : {A : Type 0} (b d : Bool) → b ≡ d → (x y : A) → (if b then x else y) ≡ (if d then x else y)
if_is b d e x y = ap (λ z. if z then x else y) e

pub next_event : (c : Code) (o : Options) (s : Raw) (k : ℕ) (answer : Answer) → k < 64 → May (ask c o k (s.thread k)) answer → Agrees (ask c o k (s.thread k)) answer s.word
    → Event c o s k answer (next_raw c o s k answer)
next_event c o s k answer number may agrees = record {
  number = number;
  may = may;
  agrees = agrees;
  words = λ q. refl;
  mine = if_is (k == k) true (eq-eqb k k refl) (take_step c o k (s.thread k) answer) (s.thread k);
  others = λ j d. if_is (j == k) false (ne_eqb j k d) (take_step c o k (s.thread k) answer) (s.thread j);
  blocks = λ b. refl;
  born = refl;
  prints = refl;
}

pub nil_right : (xs : List Entry) → xs ++ [] ≡ xs
nil_right [] = refl
nil_right (x ∷ xs) = ap (λ l. x ∷ l) (nil_right xs)

-- one list of events behind another
pub after : {c : Code} {o : Options} {first mid last : Raw} → Events c o first mid → Events c o mid last → Events c o first last
after p No_events = p
after p (More_events s s' k answer q e) = More_events s s' k answer (after p q) e

-- it makes the entries of the one and then those of the other
pub made_after : {c : Code} {o : Options} {first mid last : Raw} (p : Events c o first mid) (q : Events c o mid last) → history (after p q) ≡ history p ++ history q
unfolding after
made_after p No_events = sym (nil_right (history p))
made_after {c} {o} p (More_events s s' k answer q e) =
    ap (λ (l : List Entry). l ++ entries k (ask c o k (s.thread k)) answer) (made_after p q) ∙ append_assoc (history p) (history q) (entries k (ask c o k (s.thread k)) answer)

-- ---- words that are the same at each place

agrees_same : (m : Option Move) (n : ℕ) (f g : ℕ → ℕ) → ((q : ℕ) → g q ≡ f q) → AgreesBy m n f → AgreesBy m n g
agrees_same None n f g h q = q
agrees_same (Some m) n f g h q = subst (λ x. HasSeen m.kind n x) (sym (h m.place)) q

pub agrees_on : (a : Ask) (answer : Answer) (f g : ℕ → ℕ) → ((q : ℕ) → g q ≡ f q) → Agrees a answer f → Agrees a answer g
agrees_on a (Saw n) f g h q = agrees_same (move_of a) n f g h q
agrees_on a Quiet f g h q = tt
agrees_on a Missed f g h q = tt
agrees_on a Refused f g h q = tt

pub words_same : (m : Option Move) (f g : ℕ → ℕ) → ((q : ℕ) → g q ≡ f q) → (q : ℕ) → word_then m g q ≡ word_then m f q
words_same None f g h q = h q
words_same (Some m) f g h q = ap (λ x. if m.place == q then word_after m.kind m.value x else x) (h q)
