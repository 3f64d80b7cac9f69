-- Take in two steps, and Give.
use Rattle.std.proofs.Common.{◌≡◌, ◌≢◌, ◌<◌, ◌==◌, inl, inr, true, false, ℕ, zero, suc, ◌+◌, List, length, Option, Some, None, refl, sym, ap, ◌∙◌, subst, arith, eq-eqb, ne_eqb}
use Rattle.std.specs.Prelude.{not}
use Rattle.std.proofs.lemmas.Bool.{cases_eq}
use Rattle.mz_tree.specs.declared.types.Place.{Place}
use Rattle.mz_tree.specs.Code.{Take_op, Command}
use Rattle.mz_tree.specs.Programs.{Program}
use Rattle.mz_words.specs.declared.code.Act.TheVariants.{Take}
use Rattle.mz_words.specs.declared.code.Instr.{Instr}
use Rattle.mz_words.specs.declared.code.Code.{Code}
use Rattle.mz_words.specs.declared.options.Options.{Options}
use Rattle.mz_words.specs.declared.ends.End.TheVariants as ending
use Rattle.mz_words.specs.declared.asks.Ask.TheVariants.{Loads}
use Rattle.mz_words.specs.declared.asks.Answer.TheVariants.{Saw}
use Rattle.mz_words.specs.declared.stages.Stage.TheVariants.{Ready, Taking}
use Rattle.mz_words.specs.Standing.{Standing}
use Rattle.mz_words.specs.Steps.{reg, counted, placed, stop, unit_at}
use Rattle.mz_words.specs.Raw.{Raw}
use Rattle.mz_named.specs.Machine.{Block_cell, Environment, Cells, TwoBlocks, Level, Suspended, Thread, Stopped, Config, Step_stops}
use Rattle.mz_lower.specs.Layout.{instr}
use Rattle.mz_lower.specs.StandsFor.{raw_value, raw_adopter, StandsRunning}
use Rattle.mz_lower.proofs.Addresses.{if_true, if_false}
use Rattle.mz_lower.proofs.Simulation.{Simulation, EventAt, Inside}
use Rattle.mz_lower.proofs.CanDo.{ThreadIsFine, CanDo, Can_act, Can_stop, Can_wait, Can_choose, Can_call, Can_spawn, fine_can}
use Rattle.mz_lower.proofs.Binding.{nil_right, AtCommand, at_frame, at_op, next_of, moves_on, goes_with, rests_with, gone}
use Rattle.mz_lower.proofs.LocalActs.{KeptAs, kept_as}
use Rattle.mz_lower.proofs.Loads.{same_either}
use Rattle.mz_lower.proofs.Asked.{both_is, EventAs, event_as}
use Rattle.mz_lower.proofs.NewBlocks.{running_at}

-- both are blocks, at the command of a Take
pub both_of : (p : Program) (values : Environment) (x y : ℕ) (at : Cells) → CanDo p values (Take_op x y) at → TwoBlocks at (values x) (values y)
both_of p values x y at (Can_act v at' out d) = d.0.both
both_of p values x y at (Can_stop d) = d.both
both_of p values x y at (Can_wait z) = absurd z
both_of p values x y at (Can_choose body z) = absurd z
both_of p values x y at (Can_call callee2 args2 q2 g2) = absurd (cc)
both_of p values x y at (Can_spawn callee2 arg2 q2 g2) = absurd (cc)

module _ (p : Program) (c : Code) (o : Options) (s s' : Raw) (w : Config) (S : Simulation p c o s w) (k n : ℕ) (values : Environment) (to : ℕ) (place : Place) (rest : List Command) (value : ℕ) (outer : List Level) (below : List Suspended) where
  -- the load of a Take: the adopter is seen, or the thread stops
  pub look_take_next : (x y m : ℕ) → AtCommand c s w k n values to (Take_op x y) place rest value outer below → ThreadIsFine p w n
      → EventAt c o s k (Saw m) s' Ready (Some (instr place (Take to x y))) → KeptAs p c o s s' w k (not (m == reg (s.thread k) y))
  look_take_next x y m at fine e = elim (cases_eq m (reg (s.thread k) y)) [
    | inl q ↦ kept_as p c o s s' w k (not (m == reg (s.thread k) y)) false (ap not (eq-eqb m (reg (s.thread k) y) q)) (rests_with p c o s s' w S k n e.number (λ z h. words z) e.blocks (e.born ∙ nil_right s.born) prints e.others at.is u0 u0 at.here
        (unit_at Taking (s.thread k)) 1 (e.mine ∙ if_true (m == reg (s.thread k) y) (eq-eqb m (reg (s.thread k) y) q) (unit_at Taking (s.thread k)) (stop (ending.TakeFailed place) (unit_at Ready (s.thread k)))) refl (omega (arith, asked.1))
        (record { top = run.top; below = run.below; is = run.is; frames = record { regs = run.frames.regs; place = run.frames.place; under = run.frames.under } })
        (λ w2 h. subst (λ (z : Option Instr). Inside s'.word w2 S.base_of S.maker S.spawner k (unit_at Taking (s.thread k)) Taking z) (sym e.at_instr)
        (words spot ∙ sym f.agrees ∙ q, belongs, subst (λ z. S.maker z ≡ None) (sym at_b) (S.made both.block (Block_cell both.con both.held_by both.fields) both.made))) refl)
    | inr q ↦ kept_as p c o s s' w k (not (m == reg (s.thread k) y)) true (ap not (ne_eqb m (reg (s.thread k) y) q)) (
      n,
      at.is,
      (
        gone p c o s s' w S k n e.number (λ z h. words z) e.blocks (e.born ∙ nil_right s.born) prints e.others at.is u0 Stopped at.here t' 1 (mine q) refl (omega (arith, asked.1)) refl (λ w2 h. tt),
        Step_stops _ below _ rest (next_of c s w k n values to (Take_op x y) place rest value outer below at) (record { both = both; not_its = differs q }) (moves_on w n u0 Stopped at.here),
        goes_with p c o s s' w S k n e.number (λ z h. words z) e.blocks (e.born ∙ nil_right s.born) prints e.others at.is u0 Stopped at.here t' 1 (mine q) refl (omega (arith, asked.1)) refl (λ w2 h. tt),
      ),
    )
  ]
    where
      u0 : Thread
      u0 = at_frame values (at_op to (Take_op x y) place rest value) outer below

      run : StandsRunning c.instrs (s.thread k) u0
      run = running_at c s w k n values to (Take_op x y) place rest value outer below at

      spot : ℕ
      spot = reg (s.thread k) x + 1

      asked : (counted o (s.thread k) (placed o spot (Loads spot)) ≡ Loads spot) × ((s.thread k).units < o.steps)
      asked = both_is o (s.thread k) spot (Loads spot) (Saw m) (λ h. h) (λ h. h) e.may

      f : EventAs c o s k (Saw m) s' Ready (Some (instr place (Take to x y))) (Loads spot)
      f = event_as c o s k (Saw m) s' Ready (Some (instr place (Take to x y))) (Loads spot) e asked.0

      words : (z : ℕ) → s'.word z ≡ s.word z
      words z = f.words z ∙ same_either (spot == z) (s.word z)

      prints : s'.prints ≡ s.prints
      prints = f.prints ∙ nil_right s.prints

      both : TwoBlocks w.heap.at (values x) (values y)
      both = both_of p values x y w.heap.at (fine_can p w n (next_of c s w k n values to (Take_op x y) place rest value outer below at) fine)

      at_b : reg (s.thread k) x ≡ both.block
      at_b = at.regs.agree x ∙ ap raw_value both.is_block

      cell_is : s.blocks both.block ≡ Some (length both.fields + 2)
      cell_is = (S.stands.blocks both.block (Block_cell both.con both.held_by both.fields) both.made).complete

      belongs : S.base_of spot ≡ Some (reg (s.thread k) x)
      belongs = subst (λ z. S.base_of (z + 1) ≡ Some z) (sym at_b) (S.in_block both.block (length both.fields + 2) 1 cell_is (omega arith))

      adopter_word : s.word spot ≡ raw_adopter both.held_by
      adopter_word = ap (λ z. s.word (z + 1)) at_b ∙ (S.stands.blocks both.block (Block_cell both.con both.held_by both.fields) both.made).words (suc zero) (omega arith)

      differs : m ≢ reg (s.thread k) y → both.held_by ≢ Some both.adopter
      differs q z = q (f.agrees ∙ adopter_word ∙ ap raw_adopter z ∙ sym (at.regs.agree y ∙ ap raw_value both.is_adopter))

      t' : Standing
      t' = stop (ending.TakeFailed place) (unit_at Ready (s.thread k))

      mine : m ≢ reg (s.thread k) y → s'.thread k ≡ t'
      mine q = e.mine ∙ if_false (m == reg (s.thread k) y) (ne_eqb m (reg (s.thread k) y) q) (unit_at Taking (s.thread k)) t'
