-- Loads of complete blocks: Read and Switch.
use Rattle.std.proofs.Common.{◌≡◌, ◌<◌, ◌==◌, ℕ, zero, suc, ◌+◌, List, [], ◌∷◌, length, map, Option, Some, None, Bool, true, false, refl, ap, ◌∙◌, arith}
use Rattle.std.specs.Prelude.{slice_get, slice_index_or, if◌then◌else◌}
use Rattle.std.proofs.lemmas.Option.{slice_get_within}
use Rattle.mz_tree.specs.Plain.{Atom}
use Rattle.mz_tree.specs.declared.types.Place.{Place}
use Rattle.mz_tree.specs.Code.{Read_op, Match_op, Command, Cases}
use Rattle.mz_tree.specs.Programs.{Program}
use Rattle.mz_words.specs.declared.code.Act.TheVariants.{Read, Switch}
use Rattle.mz_words.specs.declared.code.Code.{Code}
use Rattle.mz_words.specs.declared.options.Options.{Options}
use Rattle.mz_words.specs.declared.asks.Ask.TheVariants.{Loads}
use Rattle.mz_words.specs.declared.asks.Answer.TheVariants.{Saw}
use Rattle.mz_words.specs.declared.stages.Stage.TheVariants.{Ready}
use Rattle.mz_words.specs.Steps.{reg, counted, placed, case_at, switched}
use Rattle.mz_words.specs.Raw.{Raw}
use Rattle.mz_named.specs.Machine.{Value, Block_cell, Environment, Level, Suspended, Config}
use Rattle.mz_lower.specs.Layout.{instr, cons_in, targets_in}
use Rattle.mz_lower.specs.StandsFor.{raw_value}
use Rattle.mz_lower.proofs.Addresses.{match_place}
use Rattle.mz_lower.proofs.Simulation.{Simulation, EventAt}
use Rattle.mz_lower.proofs.CanDo.{ThreadIsFine, CanDo, Can_act, Can_stop, Can_wait, Can_choose, Can_call, Can_spawn, fine_can}
use Rattle.mz_lower.proofs.Binding.{nil_right, AtCommand, next_of, binds_on}
use Rattle.mz_lower.proofs.LocalActs.{StepOn, branch_goes}
use Rattle.mz_lower.proofs.Asked.{both_is, EventAs, event_as}

-- what is one of two words either way
pub same_either : {A : Type 0} (b : Bool) (x : A) → (if b then x else x) ≡ x
same_either true x = refl
same_either false x = refl

-- an element of a list that is mapped
pub map_at : (f : Value → ℕ) (vs : List Value) (i : ℕ) (v : Value) → slice_get vs i ≡ Some v → slice_index_or (map f vs) i 0 ≡ f v
map_at f [] i v e = absurd (no_none e)
  where
    no_none : {v : Value} → None ≡ Some v → ⊥
    no_none e = absurd (cc)
map_at f (u ∷ vs) zero v e = let same : u ≡ v = cc in ap f same
map_at f (u ∷ vs) (suc i) v e = map_at f vs i v e

module _ (p : Program) (c : Code) (o : Options) (s s' : Raw) (w : Config) (S : Simulation p c o s w) (k n : ℕ) (values : Environment) (to : ℕ) (place : Place) (rest : List Command) (value : ℕ) (outer : List Level) (below : List Suspended) where
  -- a Read gives the field that its named step reads
  pub read_next : (x con i m : ℕ) → AtCommand c s w k n values to (Read_op x con i) place rest value outer below → ThreadIsFine p w n
      → EventAt c o s k (Saw m) s' Ready (Some (instr place (Read to x con i))) → StepOn p c o s' w n
  read_next x con i m at fine e = by_can (fine_can p w n (next_of c s w k n values to (Read_op x con i) place rest value outer below at) fine)
    where
      spot : ℕ
      spot = reg (s.thread k) x + 2 + i

      asked : (counted o (s.thread k) (placed o spot (Loads spot)) ≡ Loads spot) × ((s.thread k).units < o.steps)
      asked = both_is o (s.thread k) spot (Loads spot) (Saw m) (λ h. h) (λ h. h) e.may

      f : EventAs c o s k (Saw m) s' Ready (Some (instr place (Read to x con i))) (Loads spot)
      f = event_as c o s k (Saw m) s' Ready (Some (instr place (Read to x con i))) (Loads spot) e asked.0

      by_can : CanDo p values (Read_op x con i) w.heap.at → StepOn p c o s' w n
      by_can (Can_act v at' out d) =
          let r = d.0 in
          let agrees = S.stands.blocks r.name (Block_cell con r.made.adopter r.fields) r.made.made in
          let at_b : reg (s.thread k) x ≡ r.name = at.regs.agree x ∙ ap raw_value r.is in
          let spot_is : spot ≡ r.name + suc (suc i) = omega (arith, at_b) in
          let is : m ≡ raw_value v = f.agrees ∙ ap s.word spot_is ∙ agrees.words (suc (suc i)) (omega (arith, slice_get_within r.fields i v r.at_field)) ∙ map_at raw_value r.fields i v r.at_field in
          binds_on p c o s s' w S k n values to (Read_op x con i) place rest value outer below at refl v m ((s.thread k).units + 1) 1 0
          e.number (λ q h. f.words q ∙ same_either (spot == q) (s.word q)) e.blocks (e.born ∙ nil_right s.born) (f.prints ∙ nil_right s.prints) e.others e.mine is refl (omega (arith, asked.1))
          (r, λ b. refl, refl)
      by_can (Can_stop h) = absurd h
      by_can (Can_wait h) = absurd h
      by_can (Can_choose body h) = absurd h
      by_can (Can_call callee2 args2 q2 g2) = absurd (cc)
      by_can (Can_spawn callee2 arg2 q2 g2) = absurd (cc)

  -- a Switch leads to the branch that its named step chooses
  pub switch_next : (x d m : ℕ) (cases : Cases) (giving : List (Atom ℕ)) → AtCommand c s w k n values to (Match_op x d cases giving) place rest value outer below → ThreadIsFine p w n
      → EventAt c o s k (Saw m) s' Ready (Some (instr place (Switch x (cons_in cases) (targets_in ((s.thread k).at + 1) cases)))) → StepOn p c o s' w n
  switch_next x d m cases giving at fine e = by_can (fine_can p w n (next_of c s w k n values to (Match_op x d cases giving) place rest value outer below at) fine)
    where
      spot : ℕ
      spot = reg (s.thread k) x

      asked : (counted o (s.thread k) (placed o spot (Loads spot)) ≡ Loads spot) × ((s.thread k).units < o.steps)
      asked = both_is o (s.thread k) spot (Loads spot) (Saw m) (λ h. h) (λ h. h) e.may

      f : EventAs c o s k (Saw m) s' Ready (Some (instr place (Switch x (cons_in cases) (targets_in ((s.thread k).at + 1) cases)))) (Loads spot)
      f = event_as c o s k (Saw m) s' Ready (Some (instr place (Switch x (cons_in cases) (targets_in ((s.thread k).at + 1) cases)))) (Loads spot) e asked.0

      by_can : CanDo p values (Match_op x d cases giving) w.heap.at → StepOn p c o s' w n
      by_can (Can_choose body h) =
          let agrees = S.stands.blocks h.name (Block_cell h.con h.made.adopter h.fields) h.made.made in
          let at_b : reg (s.thread k) x ≡ h.name = at.regs.agree x ∙ ap raw_value h.is in
          let spot_is : spot ≡ h.name + zero = omega (arith, at_b) in
          let tag : m ≡ h.con + 1 = f.agrees ∙ ap s.word spot_is ∙ agrees.words zero (omega arith) in
          let there = (match_place c.instrs (length (s.thread k).regs) (s.thread k).at to x d cases giving place rest value outer h.con body at.stands h.chosen).1 in
          branch_goes p c o s s' w S k n values to place rest value outer below (Match_op x d cases giving) body there.target ((s.thread k).units + 1) 1 0 at
          e.number (λ q. f.words q ∙ same_either (spot == q) (s.word q)) e.blocks (e.born ∙ nil_right s.born) (f.prints ∙ nil_right s.prints) e.others
          (e.mine ∙ ap (λ z. switched (case_at (cons_in cases) (targets_in ((s.thread k).at + 1) cases) z) (s.thread k)) tag ∙ ap (λ (z : Option ℕ). switched z (s.thread k)) there.found)
          refl (omega (arith, asked.1)) h there.stands
      by_can (Can_act v at' out h) = absurd h
      by_can (Can_stop h) = absurd h
      by_can (Can_wait h) = absurd h
      by_can (Can_call callee2 args2 q2 g2) = absurd (cc)
      by_can (Can_spawn callee2 arg2 q2 g2) = absurd (cc)
