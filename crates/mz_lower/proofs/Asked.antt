-- What was asked, where something was answered.
use Rattle.std.proofs.Common.{◌≡◌, ◌<◌, ℕ, ◌++◌, Option, Bool, true, false, leb, ltb, refl, ◌∙◌, subst}
use Rattle.std.specs.Prelude.{if◌then◌else◌}
use Rattle.std.proofs.lemmas.Bool.{leb-false}
use Rattle.mz_words.specs.declared.code.Instr.{Instr}
use Rattle.mz_words.specs.declared.code.Code.{Code}
use Rattle.mz_words.specs.declared.options.Options.{Options}
use Rattle.mz_words.specs.declared.asks.Ask.{Ask}
use Rattle.mz_words.specs.declared.asks.Ask.TheVariants.{Local, Nothing}
use Rattle.mz_words.specs.declared.asks.Answer.{Answer}
use Rattle.mz_words.specs.declared.stages.Stage.{Stage}
use Rattle.mz_words.specs.Standing.{Standing}
use Rattle.mz_words.specs.Steps.{counted, placed, ask_at}
use Rattle.mz_words.specs.Answers.{May, Agrees, moved, word_then}
use Rattle.mz_words.specs.Raw.{Raw, printed}
use Rattle.mz_lower.proofs.Simulation.{EventAt}

counted_by : (o : Options) (t : Standing) (x : Ask) (answer : Answer) (b : Bool) → leb o.steps t.units ≡ b → (May Local answer → ⊥) → May (if b then Local else x) answer → ((if b then Local else x) ≡ x) × (t.units < o.steps)
counted_by o t x answer true e n m = absurd (n m)
counted_by o t x answer false e n m = (refl, leb-false o.steps t.units e)

-- an answer that isn't quiet was given to the step itself, and the thread has units left
pub counted_is : (o : Options) (t : Standing) (x : Ask) (answer : Answer) → (May Local answer → ⊥) → May (counted o t x) answer → (counted o t x ≡ x) × (t.units < o.steps)
counted_is o t x answer n m = counted_by o t x answer (leb o.steps t.units) refl n m

placed_by : (o : Options) (place : ℕ) (x : Ask) (answer : Answer) (b : Bool) → ltb place o.heap ≡ b → (May Nothing answer → ⊥) → May (if b then x else Nothing) answer → (if b then x else Nothing) ≡ x
placed_by o place x answer true e n m = refl
placed_by o place x answer false e n m = absurd (n m)

-- the same of a place among the words
pub placed_is : (o : Options) (place : ℕ) (x : Ask) (answer : Answer) → (May Nothing answer → ⊥) → May (placed o place x) answer → placed o place x ≡ x
placed_is o place x answer n m = placed_by o place x answer (ltb place o.heap) refl n m

-- the same of a step that is counted and has a place
pub both_is : (o : Options) (t : Standing) (place : ℕ) (x : Ask) (answer : Answer) → (May Local answer → ⊥) → (May Nothing answer → ⊥) → May (counted o t (placed o place x)) answer → (counted o t (placed o place x) ≡ x) × (t.units < o.steps)
both_is o t place x answer n m h =
    let q = counted_is o t (placed o place x) answer n h in
    (q.0 ∙ placed_is o place x answer m (subst (λ (y : Ask). May y answer) q.0 h), q.1)

-- an event by which this was asked
pub record EventAs (c : Code) (o : Options) (s : Raw) (k : ℕ) (answer : Answer) (s' : Raw) (stage : Stage) (a : Option Instr) (x : Ask) : Type 0 where
  pub may : May x answer
  pub agrees : Agrees x answer s.word
  pub words : (q : ℕ) → s'.word q ≡ word_then (moved x answer) s.word q
  pub prints : s'.prints ≡ s.prints ++ printed x answer

-- an event at a known instruction, by what it asks
pub event_as : (c : Code) (o : Options) (s : Raw) (k : ℕ) (answer : Answer) (s' : Raw) (stage : Stage) (a : Option Instr) (x : Ask) → EventAt c o s k answer s' stage a → ask_at c o k (s.thread k) stage a ≡ x → EventAs c o s k answer s' stage a x
event_as c o s k answer s' stage a x e q = subst (λ (y : Ask). EventAs c o s k answer s' stage a y) q (record { may = e.may; agrees = e.agrees; words = e.words; prints = e.prints })
