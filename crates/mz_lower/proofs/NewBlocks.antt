-- New and NewLock.
use Rattle.std.proofs.Common.{◌≡◌, ◌≢◌, ◌<◌, ◌≤◌, ◌==◌, inl, inr, ℕ, zero, suc, ◌+◌, List, [], ◌∷◌, length, map, Option, Some, None, Bool, true, false, leb, refl, sym, ap, ◌∙◌, subst, arith, eq-eqb, ne_eqb}
use Rattle.std.specs.Prelude.{slice_get, slice_index_or, if◌then◌else◌}
use Rattle.std.proofs.lemmas.Bool.{cases_eq, leb-true}
use Rattle.std.proofs.lemmas.List.{length-map}
use Rattle.mz_tree.specs.Plain.{Atom}
use Rattle.mz_tree.specs.declared.types.Place.{Place}
use Rattle.mz_tree.specs.Code.{Op, New_op, New_lock_op, Command}
use Rattle.mz_tree.specs.Programs.{Program}
use Rattle.mz_words.specs.declared.code.Act.{Act}
use Rattle.mz_words.specs.declared.code.Act.TheVariants.{New, NewLock}
use Rattle.mz_words.specs.declared.code.Instr.{Instr}
use Rattle.mz_words.specs.declared.code.Code.{Code}
use Rattle.mz_words.specs.declared.options.Options.{Options}
use Rattle.mz_words.specs.declared.ends.End.TheVariants as ending
use Rattle.mz_words.specs.declared.asks.Ask.TheVariants.{Adds, Stores}
use Rattle.mz_words.specs.declared.asks.Answer.{Answer}
use Rattle.mz_words.specs.declared.asks.Answer.TheVariants.{Saw}
use Rattle.mz_words.specs.declared.stages.Stage.{Stage}
use Rattle.mz_words.specs.declared.stages.Stage.TheVariants.{Ready, Making}
use Rattle.mz_words.specs.Standing.{Standing}
use Rattle.mz_words.specs.Steps.{reg, counted, placed, made_words, made_word, new_word, unit_at, stop, gives}
use Rattle.mz_words.specs.Raw.{Raw, blocks_then}
use Rattle.mz_named.specs.Machine.{Value, Block_cell, Lock_cell, Config, Environment, Level, Suspended}
use Rattle.mz_lower.specs.Layout.{instr}
use Rattle.mz_lower.specs.StandsFor.{raw_value, RegistersAgree, Comes_here, cell_word, StandsRunning}
use Rattle.mz_lower.proofs.Addresses.{if_true, if_false}
use Rattle.mz_lower.proofs.Simulation.{Simulation, HalfMade, Inside, EventAt}
use Rattle.mz_lower.proofs.CanDo.{ThreadIsFine, CanDo, Can_act, Can_stop, Can_wait, Can_choose, Can_call, Can_spawn, fine_can}
use Rattle.mz_lower.proofs.Binding.{nil_right, AtCommand, at_frame, at_op, next_of}
use Rattle.mz_lower.proofs.LocalActs.{StepOn, KeptAs, kept_as}
use Rattle.mz_lower.proofs.Asked.{counted_is, both_is, EventAs, event_as}
use Rattle.mz_lower.proofs.Writes.{put_puts}
use Rattle.mz_lower.proofs.Making.{Limited, draws_on, makes_on, completes_on, full_on}

-- the registers that are read hold the values
pub values_read : (values : Environment) (t : Standing) → RegistersAgree values t.regs → (gives_step : List ℕ) → map (reg t) gives_step ≡ map raw_value (map values gives_step)
values_read values t r [] = refl
values_read values t r (name ∷ gives_step) = ap (λ x. x ∷ map (reg t) gives_step) (r.agree name) ∙ ap (λ (l : List ℕ). raw_value (values name) ∷ l) (values_read values t r gives_step)

block_words : (con : ℕ) (read : List ℕ) (vs : List Value) → read ≡ map raw_value vs → (j : ℕ) → new_word con read j ≡ cell_word (Block_cell con None vs) j
block_words con read vs e zero = refl
block_words con read vs e (suc zero) = refl
block_words con read vs e (suc (suc j)) = ap (λ l. slice_index_or l j 0) e

-- by cases on a test
pub by_bool : {A : Type 0} (F : Type 0) (b : Bool) (x y : A) (z : A) → z ≡ (if b then x else y) → (z ≡ x → F) → (z ≡ y → F) → F
by_bool F true x y z e f g = f e
by_bool F false x y z e f g = g e

-- by cases on a test, which is known in each
pub by_bit : {A : Type 0} (F : Type 0) (b : Bool) (x y z : A) → z ≡ (if b then x else y) → (b ≡ true → z ≡ x → F) → (b ≡ false → z ≡ y → F) → F
by_bit F true x y z e f g = f refl e
by_bit F false x y z e f g = g refl e

-- a thread that runs at a command
pub running_at : (c : Code) (s : Raw) (w : Config) (k n : ℕ) (values : Environment) (to : ℕ) (op : Op) (place : Place) (rest : List Command) (value : ℕ) (outer : List Level) (below : List Suspended)
    → AtCommand c s w k n values to op place rest value outer below → StandsRunning c.instrs (s.thread k) (at_frame values (at_op to op place rest value) outer below)
running_at c s w k n values to op place rest value outer below at = record {
  top = record { env = values; rest = at_op to op place rest value; outer = outer };
  below = below;
  is = refl;
  frames = record { regs = at.regs; place = Comes_here at.stands; under = at.under };
}

module _ (p : Program) (c : Code) (o : Options) (s s' : Raw) (w : Config) (S : Simulation p c o s w) (k n : ℕ) (values : Environment) (to : ℕ) (place : Place) (rest : List Command) (value : ℕ) (outer : List Level) (below : List Suspended) (limited : Limited o) where
  -- the first step of a New or a NewLock
  draw_next : (op : Op) (a : Act) (size m : ℕ) → 1 ≤ size → size ≤ 34 → made_words a ≡ size → AtCommand c s w k n values to op place rest value outer below
      → EventAt c o s k (Saw m) s' Ready (Some (instr place a)) → ((s.thread k).units < o.steps) → EventAs c o s k (Saw m) s' Ready (Some (instr place a)) (Adds 0 size)
      → s'.thread k ≡ (if leb (m + size) o.heap then unit_at (Making m 0) (s.thread k) else stop (ending.HeapFull place) (unit_at Ready (s.thread k))) → Simulation p c o s' w
  draw_next op a size m few most long at e units f mine = by_bit (Simulation p c o s' w) (leb (m + size) o.heap) _ _ _ mine
      (λ fits q. draws_on p c o s s' w S k n _ (instr place a) m size e.number few most limited f.agrees f.words e.blocks (e.born ∙ nil_right s.born) (f.prints ∙ nil_right s.prints) e.others units at.is at.here
      (leb-true (m + size) o.heap fits) (s'.thread k) refl q long e.at_instr (running_at c s w k n values to op place rest value outer below at))
      (λ fits q. full_on p c o s s' w S k n _ (instr place a) m size e.number few most limited f.agrees f.words e.blocks (e.born ∙ nil_right s.born) (f.prints ∙ nil_right s.prints) e.others units at.is at.here
      place q (running_at c s w k n values to op place rest value outer below at))

  -- the draw of a New
  pub new_draws : (con m : ℕ) (ys : List ℕ) → length ys ≤ 32 → AtCommand c s w k n values to (New_op con ys) place rest value outer below
      → EventAt c o s k (Saw m) s' Ready (Some (instr place (New to con ys))) → Simulation p c o s' w
  new_draws con m ys few at e =
      let asked = counted_is o (s.thread k) (Adds 0 (length ys + 2)) (Saw m) (λ h. h) e.may in
      draw_next (New_op con ys) (New to con ys) (length ys + 2) m (omega arith) (omega (arith, few)) refl at e asked.1 (event_as c o s k (Saw m) s' Ready (Some (instr place (New to con ys))) (Adds 0 (length ys + 2)) e asked.0) e.mine

  -- the draw of a NewLock
  pub lock_draws : (m : ℕ) (guarded : List (Atom ℕ)) → AtCommand c s w k n values to (New_lock_op guarded) place rest value outer below
      → EventAt c o s k (Saw m) s' Ready (Some (instr place (NewLock to))) → Simulation p c o s' w
  lock_draws m guarded at e =
      let asked = counted_is o (s.thread k) (Adds 0 1) (Saw m) (λ h. h) e.may in
      draw_next (New_lock_op guarded) (NewLock to) 1 m (omega arith) (omega arith) refl at e asked.1 (event_as c o s k (Saw m) s' Ready (Some (instr place (NewLock to))) (Adds 0 1) e asked.0) e.mine

  -- what is known of the block that thread k makes
  half_here : (a : Act) (b y : ℕ) (answer : Answer) → EventAt c o s k answer s' (Making b y) (Some (instr place a)) → HalfMade s.word w S.base_of S.maker k (s.thread k) a b y
  half_here a b y answer e =
      subst (λ (x : Option Instr). Inside s.word w S.base_of S.maker S.spawner k (s.thread k) (Making b y) x) e.at_instr
      (subst (λ (x : Stage). Inside s.word w S.base_of S.maker S.spawner k (s.thread k) x (slice_get c.instrs (s.thread k).at)) e.at_stage (S.inside k))

  -- a store of a New: one of the first, or the last
  pub new_stores : (con b y m : ℕ) (ys : List ℕ) → AtCommand c s w k n values to (New_op con ys) place rest value outer below → ThreadIsFine p w n
      → EventAt c o s k (Saw m) s' (Making b y) (Some (instr place (New to con ys))) → KeptAs p c o s s' w k (y + 1 == length ys + 2)
  new_stores con b y m ys at fine e = elim (cases_eq (y + 1) (length ys + 2)) [
    | inl q ↦ kept_as p c o s s' w k (y + 1 == length ys + 2) true (eq-eqb (y + 1) (length ys + 2) q) (n, at.is, by_can q (fine_can p w n (next_of c s w k n values to (New_op con ys) place rest value outer below at) fine))
    | inr q ↦ kept_as p c o s s' w k (y + 1 == length ys + 2) false (ne_eqb (y + 1) (length ys + 2) q) (makes_on p c o s s' w S k n (instr place a) b y e.number h stored words (e.born ∙ nil_right s.born) (f.prints ∙ nil_right s.prints) e.others asked.1 at.is _ at.here
        (e.mine ∙ if_false (y + 1 == length ys + 2) (ne_eqb (y + 1) (length ys + 2) q) (gives to b (unit_at Ready (s.thread k))) (unit_at (Making b (y + 1)) (s.thread k)))
        (omega (arith, h.few, q)) e.at_instr
        (λ x. e.blocks x ∙ ap (λ z. blocks_then z s.blocks x) (if_false (y + 1 == length ys + 2) (ne_eqb (y + 1) (length ys + 2) q) (Some (b, length ys + 2)) None))
        (running_at c s w k n values to (New_op con ys) place rest value outer below at))
  ]
    where
      a : Act
      a = New to con ys

      h : HalfMade s.word w S.base_of S.maker k (s.thread k) a b y
      h = half_here a b y (Saw m) e

      raw : ℕ
      raw = made_word (s.thread k) a y

      asked : (counted o (s.thread k) (placed o (b + y) (Stores (b + y) raw)) ≡ Stores (b + y) raw) × ((s.thread k).units < o.steps)
      asked = both_is o (s.thread k) (b + y) (Stores (b + y) raw) (Saw m) (λ h. h) (λ h. h) e.may

      f : EventAs c o s k (Saw m) s' (Making b y) (Some (instr place a)) (Stores (b + y) raw)
      f = event_as c o s k (Saw m) s' (Making b y) (Some (instr place a)) (Stores (b + y) raw) e asked.0

      stored : s'.word (b + y) ≡ raw
      stored = f.words (b + y) ∙ if_true (b + y == b + y) (eq-eqb (b + y) (b + y) refl) raw (s.word (b + y))

      words : (q : ℕ) → q ≢ b + y → s'.word q ≡ s.word q
      words q d = f.words q ∙ if_false (b + y == q) (ne_eqb (b + y) q (λ z. d (sym z))) raw (s.word q)

      by_can : y + 1 ≡ length ys + 2 → CanDo p values (New_op con ys) w.heap.at → StepOn p c o s' w n
      by_can q (Can_act v at' out d) =
          let read = values_read values (s.thread k) at.regs ys in
          completes_on p c o s s' w S k n (instr place a) b y e.number h stored words (e.born ∙ nil_right s.born) (f.prints ∙ nil_right s.prints) e.others asked.1 at.is
          values to (New_op con ys) place rest value outer below at refl (Block_cell con None (map values ys))
          (e.mine ∙ if_true (y + 1 == length ys + 2) (eq-eqb (y + 1) (length ys + 2) q) (gives to b (unit_at Ready (s.thread k))) (unit_at (Making b (y + 1)) (s.thread k)))
          q (omega (arith, length-map ys values)) (block_words con (map (reg (s.thread k)) ys) (map values ys) read)
          (λ x. e.blocks x ∙ ap (λ z. blocks_then z s.blocks x) (if_true (y + 1 == length ys + 2) (eq-eqb (y + 1) (length ys + 2) q) (Some (b, length ys + 2)) None))
          (record { name = b; free = h.not_yet; puts = put_puts b (Block_cell con None (map values ys)) w.heap; is = refl }, refl)
      by_can q (Can_stop z) = absurd z
      by_can q (Can_wait z) = absurd z
      by_can q (Can_choose body z) = absurd z
      by_can q (Can_call callee2 args2 q2 g2) = absurd (cc)
      by_can q (Can_spawn callee2 arg2 q2 g2) = absurd (cc)

  -- the one store of a NewLock
  pub lock_stores : (b y m : ℕ) (guarded : List (Atom ℕ)) → AtCommand c s w k n values to (New_lock_op guarded) place rest value outer below
      → EventAt c o s k (Saw m) s' (Making b y) (Some (instr place (NewLock to))) → KeptAs p c o s s' w k (y + 1 == 1)
  lock_stores b y m guarded at e =
      let h = half_here (NewLock to) b y (Saw m) e in
      let asked = both_is o (s.thread k) (b + y) (Stores (b + y) 0) (Saw m) (λ h. h) (λ h. h) e.may in
      let f = event_as c o s k (Saw m) s' (Making b y) (Some (instr place (NewLock to))) (Stores (b + y) 0) e asked.0 in
      let q : y + 1 ≡ 1 = omega (arith, h.few) in
      kept_as p c o s s' w k (y + 1 == 1) true (eq-eqb (y + 1) 1 q) (
        n,
        at.is,
        completes_on p c o s s' w S k n (instr place (NewLock to)) b y e.number h
            (f.words (b + y) ∙ if_true (b + y == b + y) (eq-eqb (b + y) (b + y) refl) 0 (s.word (b + y)))
            (λ x d. f.words x ∙ if_false (b + y == x) (ne_eqb (b + y) x (λ z. d (sym z))) 0 (s.word x))
            (e.born ∙ nil_right s.born) (f.prints ∙ nil_right s.prints) e.others asked.1 at.is
            values to (New_lock_op guarded) place rest value outer below at refl (Lock_cell false)
            (e.mine ∙ if_true (y + 1 == 1) (eq-eqb (y + 1) 1 q) (gives to b (unit_at Ready (s.thread k))) (unit_at (Making b (y + 1)) (s.thread k)))
            q refl (λ j. refl)
            (λ x. e.blocks x ∙ ap (λ z. blocks_then z s.blocks x) (if_true (y + 1 == 1) (eq-eqb (y + 1) 1 q) (Some (b, 1)) None))
            (record { name = b; free = h.not_yet; puts = put_puts b (Lock_cell false) w.heap; is = refl }, refl),
      )
