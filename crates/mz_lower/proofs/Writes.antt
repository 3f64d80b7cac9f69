-- Stores into complete blocks and locks: Write, Acquire, Release.
use Rattle.std.proofs.Common.{◌≡◌, ◌≢◌, ◌<◌, ◌≤◌, ◌==◌, ℕ, zero, suc, ◌+◌, List, [], ◌∷◌, length, map, Option, Some, true, false, refl, sym, ap, ◌∙◌, subst, arith, eq-eqb, ne_eqb}
use Rattle.std.specs.Prelude.{slice_get, slice_set, slice_index_or, if◌then◌else◌}
use Rattle.mz_tree.specs.declared.types.Place.{Place}
use Rattle.mz_tree.specs.Code.{Op, Write_op, Retag_op, Acquire_op, Release_op, Command}
use Rattle.mz_tree.specs.Programs.{Program}
use Rattle.mz_words.specs.declared.code.Act.TheVariants.{Write, Retag, Acquire, Release}
use Rattle.mz_words.specs.declared.code.Instr.{Instr}
use Rattle.mz_words.specs.declared.code.Code.{Code}
use Rattle.mz_words.specs.declared.options.Options.{Options}
use Rattle.mz_words.specs.declared.asks.Ask.TheVariants.{Stores, Tries}
use Rattle.mz_words.specs.declared.asks.Answer.TheVariants.{Saw}
use Rattle.mz_words.specs.declared.stages.Stage.TheVariants.{Border, Ready, Taking}
use Rattle.mz_words.specs.Standing.{Standing}
use Rattle.mz_words.specs.Steps.{reg, counted, placed}
use Rattle.mz_words.specs.Raw.{Raw}
use Rattle.mz_named.specs.Machine.{Value, Int_value, Cell, Block_cell, Lock_cell, Environment, Heap, Level, Suspended, Config, Puts, Acts}
use Rattle.mz_lower.specs.Layout.{instr, size_op}
use Rattle.mz_lower.specs.StandsFor.{raw_value, cell_words, cell_word, ThreadStands}
use Rattle.mz_lower.proofs.Addresses.{if_true, if_false}
use Rattle.mz_words.proofs.Lists.{set_long}
use Rattle.mz_lower.proofs.Simulation.{Simulation, EventAt, Inside, Taken}
use Rattle.mz_lower.proofs.CanDo.{ThreadIsFine, CanDo, Can_act, Can_stop, Can_wait, Can_choose, Can_call, Can_spawn, fine_can}
use Rattle.mz_lower.proofs.Binding.{nil_right, AtCommand, next_of, step_acts, bound_thread, bound_goes, gave_frames}
use Rattle.mz_lower.proofs.LocalActs.{StepOn}
use Rattle.mz_lower.proofs.Asked.{both_is, EventAs, event_as}
use Rattle.mz_lower.proofs.OneWord.{change_keeps, no_adopter}

-- a heap with one cell put
put_cell : (b : ℕ) (cell : Cell) (at : ℕ → Option Cell) → ℕ → Option Cell
put_cell b cell at m = if m == b then Some cell else at m

-- a heap in which one cell is another
pub put_heap : ℕ → Cell → Heap → Heap
unfolding put_cell
put_heap b cell heap = record {
  at = put_cell b cell heap.at;
  limit = heap.limit + b + 1;
  beyond = λ m l. if_false (m == b) (ne_eqb m b (λ e. omega (arith, e, l))) (Some cell) (heap.at m) ∙ heap.beyond m (omega (arith, l));
}

-- just that cell is another
pub put_puts : (b : ℕ) (cell : Cell) (heap : Heap) → Puts heap.at b cell (put_heap b cell heap).at
unfolding put_cell put_heap
put_puts b cell heap = record {
  put = if_true (b == b) (eq-eqb b b refl) (Some cell) (heap.at b);
  others = λ m n. if_false (m == b) (ne_eqb m b n) (Some cell) (heap.at m);
}

-- thread k stores at a word of a cell, and goes on with ()
module _ (p : Program) (c : Code) (o : Options) (s s' : Raw) (w : Config) (S : Simulation p c o s w) (k n : ℕ) (values : Environment) (to : ℕ) (op : Op) (place : Place) (rest : List Command) (value : ℕ) (outer : List Level) (below : List Suspended)
    (at : AtCommand c s w k n values to op place rest value outer below) (one : size_op op ≡ 1) (b spot p0 : ℕ) (cell cell' : Cell) where
  -- the configuration with the changed cell
  abbrev pub stored_config : Config
  stored_config = record { heap = put_heap b cell' w.heap; threads = slice_set w.threads n (bound_thread p c o s s' w S k n values to op place rest value outer below at one (Int_value 0) 0 0 0 0); prints = w.prints }

  -- a store into a cell, at a known word
  pub stores_at : k < 64 → p0 ≡ b + spot → w.heap.at b ≡ Some cell → spot < cell_words cell → cell_words cell' ≡ cell_words cell → ((i : ℕ) → i ≢ spot → i < cell_words cell → cell_word cell' i ≡ cell_word cell i)
      → s'.word p0 ≡ cell_word cell' spot → ((q : ℕ) → q ≢ p0 → s'.word q ≡ s.word q) → ((m : ℕ) → s'.blocks m ≡ s.blocks m) → s'.born ≡ s.born → s'.prints ≡ s.prints → ((j : ℕ) → j ≢ k → s'.thread j ≡ s.thread j)
      → s'.thread k ≡ record { at = (s.thread k).at + 1; regs = slice_set (s.thread k).regs to 0; below = (s.thread k).below; units = (s.thread k).units + 1; lost = 0; stage = Border } → (s.thread k).units < o.steps
      → ((j : ℕ) (i : Instr) → j ≢ k → (s.thread j).stage ≡ Taking → slice_get c.instrs (s.thread j).at ≡ Some i → Taken s.word S.base_of S.maker (s.thread j) i.act → Taken s'.word S.base_of S.maker (s.thread j) i.act)
      → Acts w.heap.at values op (Int_value 0) (put_heap b cell' w.heap).at [] → StepOn p c o s' w n
  stores_at number p0_is was within_cell alike same_words stored words blocks born prints others mine units takes d = (
    stored_config,
    step_acts p c s w k n values to op place rest value outer below at (Int_value 0) (put_heap b cell' w.heap) d,
    change_keeps p c o s s' w stored_config S k n (record {
      number = number;
      others = others;
      born = born;
      blocks = blocks;
      prints = prints;
      base = b;
      spot = spot;
      cell = cell;
      cell' = cell';
      was = was;
      within_cell = within_cell;
      alike = alike;
      puts = put_puts b cell' w.heap;
      stored = subst (λ m. s'.word m ≡ cell_word cell' spot) p0_is stored;
      words = λ q d. words q (λ e. d (e ∙ p0_is));
      same_words = same_words;
      named_prints = refl;
      is = at.is;
      thread = bound_thread p c o s s' w S k n values to op place rest value outer below at one (Int_value 0) 0 0 0 0;
      goes = bound_goes p c o s s' w S k n values to op place rest value outer below at one (Int_value 0) 0 0 0 0;
      many = set_long w.threads n (bound_thread p c o s s' w S k n values to op place rest value outer below at one (Int_value 0) 0 0 0 0);
      mine = subst (λ (t : Standing). ThreadStands c.instrs p s'.word k t (bound_thread p c o s s' w S k n values to op place rest value outer below at one (Int_value 0) 0 0 0 0)) (sym mine)
          (gave_frames p c o s s' w S k n values to op place rest value outer below at one (Int_value 0) 0 ((s.thread k).units + 1) 1 0 refl);
      inside = subst (λ (t : Standing). Inside s'.word stored_config S.base_of S.maker S.spawner k t t.stage (slice_get c.instrs t.at)) (sym mine) tt;
      takes = takes;
      more = 1;
      counts = ap (λ (t : Standing). t.units) mine;
      within = subst (λ (t : Standing). t.units ≤ o.steps) (sym mine) (omega (arith, units));
    }),
  )

  -- at a word that isn't the adopter
  pub stores_on : k < 64 → p0 ≡ b + spot → w.heap.at b ≡ Some cell → spot < cell_words cell → cell_words cell' ≡ cell_words cell → ((i : ℕ) → i ≢ spot → i < cell_words cell → cell_word cell' i ≡ cell_word cell i)
      → s'.word p0 ≡ cell_word cell' spot → ((q : ℕ) → q ≢ p0 → s'.word q ≡ s.word q) → ((m : ℕ) → s'.blocks m ≡ s.blocks m) → s'.born ≡ s.born → s'.prints ≡ s.prints → ((j : ℕ) → j ≢ k → s'.thread j ≡ s.thread j)
      → s'.thread k ≡ record { at = (s.thread k).at + 1; regs = slice_set (s.thread k).regs to 0; below = (s.thread k).below; units = (s.thread k).units + 1; lost = 0; stage = Border } → (s.thread k).units < o.steps
      → spot ≢ 1 → Acts w.heap.at values op (Int_value 0) (put_heap b cell' w.heap).at [] → StepOn p c o s' w n
  stores_on number p0_is was within_cell alike same_words stored words blocks born prints others mine units not_adopter d =
      stores_at number p0_is was within_cell alike same_words stored words blocks born prints others mine units
      (λ j i far e f t. no_adopter s.word s'.word S.base_of S.maker (s.thread j) i.act b spot (S.in_block b (cell_words cell) spot (S.stands.blocks b cell was).complete within_cell) not_adopter (λ q d. words q (λ e. d (e ∙ p0_is))) t) d

-- a field that is set
set_at : (vs : List Value) (i : ℕ) (v : Value) → i < length vs → slice_index_or (map raw_value (slice_set vs i v)) i 0 ≡ raw_value v
set_at [] i v l = absurd (omega (arith, l))
set_at (u ∷ vs) zero v l = refl
set_at (u ∷ vs) (suc i) v l = set_at vs i v (omega (arith, l))

set_off : (vs : List Value) (i m : ℕ) (v : Value) → m ≢ i → slice_index_or (map raw_value (slice_set vs i v)) m 0 ≡ slice_index_or (map raw_value vs) m 0
set_off [] i m v n = refl
set_off (u ∷ vs) zero zero v n = absurd (n refl)
set_off (u ∷ vs) zero (suc m) v n = refl
set_off (u ∷ vs) (suc i) zero v n = refl
set_off (u ∷ vs) (suc i) (suc m) v n = set_off vs i m v (λ e. n (ap suc e))

tag_off : (old new m : ℕ) (adopter : Option ℕ) (vs : List Value) → m ≢ 0 → cell_word (Block_cell new adopter vs) m ≡ cell_word (Block_cell old adopter vs) m
tag_off old new zero adopter vs n = absurd (n refl)
tag_off old new (suc zero) adopter vs n = refl
tag_off old new (suc (suc m)) adopter vs n = refl

set_words : (con i m : ℕ) (adopter : Option ℕ) (vs : List Value) (v : Value) → m ≢ suc (suc i) → cell_word (Block_cell con adopter (slice_set vs i v)) m ≡ cell_word (Block_cell con adopter vs) m
set_words con i zero adopter vs v n = refl
set_words con i (suc zero) adopter vs v n = refl
set_words con i (suc (suc m)) adopter vs v n = set_off vs i m v (λ e. n (ap (λ x. suc (suc x)) e))

module _ (p : Program) (c : Code) (o : Options) (s s' : Raw) (w : Config) (S : Simulation p c o s w) (k n : ℕ) (values : Environment) (to : ℕ) (place : Place) (rest : List Command) (value : ℕ) (outer : List Level) (below : List Suspended) where
  -- an Acquire that is won
  pub acquire_next : (x m : ℕ) → AtCommand c s w k n values to (Acquire_op x) place rest value outer below → ThreadIsFine p w n
      → EventAt c o s k (Saw m) s' Ready (Some (instr place (Acquire to x))) → StepOn p c o s' w n
  acquire_next x m at fine e = by_can (fine_can p w n (next_of c s w k n values to (Acquire_op x) place rest value outer below at) fine)
    where
      spot : ℕ
      spot = reg (s.thread k) x

      asked : (counted o (s.thread k) (placed o spot (Tries spot)) ≡ Tries spot) × ((s.thread k).units < o.steps)
      asked = both_is o (s.thread k) spot (Tries spot) (Saw m) (λ h. h) (λ h. h) e.may

      f : EventAs c o s k (Saw m) s' Ready (Some (instr place (Acquire to x))) (Tries spot)
      f = event_as c o s k (Saw m) s' Ready (Some (instr place (Acquire to x))) (Tries spot) e asked.0

      by_can : CanDo p values (Acquire_op x) w.heap.at → StepOn p c o s' w n
      by_can (Can_act v at' out d) =
          stores_on p c o s s' w S k n values to (Acquire_op x) place rest value outer below at refl d.0.name 0 spot (Lock_cell false) (Lock_cell true)
          e.number (omega (arith, at.regs.agree x, ap raw_value d.0.is)) d.0.stood (omega arith) refl (λ i d l. absurd (d (omega (arith, l))))
          (f.words spot ∙ if_true (spot == spot) (eq-eqb spot spot refl) 1 (s.word spot)) (λ q d. f.words q ∙ if_false (spot == q) (ne_eqb spot q (λ z. d (sym z))) 1 (s.word q))
          e.blocks (e.born ∙ nil_right s.born) (f.prints ∙ nil_right s.prints) e.others e.mine asked.1 (λ z. omega (arith, z)) (record { name = d.0.name; is = d.0.is; stood = d.0.stood; puts = put_puts d.0.name (Lock_cell true) w.heap }, refl, refl)
      by_can (Can_stop h) = absurd h
      -- the lock is held: its word is 1, so the try isn't won
      by_can (Can_wait h) =
          let held = (S.stands.blocks h.0 (Lock_cell true) h.2).words 0 (omega arith) in
          let spot_is : spot ≡ h.0 + 0 = omega (arith, at.regs.agree x, ap raw_value h.1) in
          let clash : 0 ≡ 1 = sym f.agrees.1 ∙ ap s.word spot_is ∙ held in
          absurd (omega (arith, clash))
      by_can (Can_choose body h) = absurd h
      by_can (Can_call callee2 args2 q2 g2) = absurd (cc)
      by_can (Can_spawn callee2 arg2 q2 g2) = absurd (cc)

  -- a Release
  pub release_next : (x m : ℕ) → AtCommand c s w k n values to (Release_op x) place rest value outer below → ThreadIsFine p w n
      → EventAt c o s k (Saw m) s' Ready (Some (instr place (Release to x))) → StepOn p c o s' w n
  release_next x m at fine e = by_can (fine_can p w n (next_of c s w k n values to (Release_op x) place rest value outer below at) fine)
    where
      spot : ℕ
      spot = reg (s.thread k) x

      asked : (counted o (s.thread k) (placed o spot (Stores spot 0)) ≡ Stores spot 0) × ((s.thread k).units < o.steps)
      asked = both_is o (s.thread k) spot (Stores spot 0) (Saw m) (λ h. h) (λ h. h) e.may

      f : EventAs c o s k (Saw m) s' Ready (Some (instr place (Release to x))) (Stores spot 0)
      f = event_as c o s k (Saw m) s' Ready (Some (instr place (Release to x))) (Stores spot 0) e asked.0

      by_can : CanDo p values (Release_op x) w.heap.at → StepOn p c o s' w n
      by_can (Can_act v at' out d) =
          stores_on p c o s s' w S k n values to (Release_op x) place rest value outer below at refl d.0.name 0 spot (Lock_cell true) (Lock_cell false)
          e.number (omega (arith, at.regs.agree x, ap raw_value d.0.is)) d.0.stood (omega arith) refl (λ i d l. absurd (d (omega (arith, l))))
          (f.words spot ∙ if_true (spot == spot) (eq-eqb spot spot refl) 0 (s.word spot)) (λ q d. f.words q ∙ if_false (spot == q) (ne_eqb spot q (λ z. d (sym z))) 0 (s.word q))
          e.blocks (e.born ∙ nil_right s.born) (f.prints ∙ nil_right s.prints) e.others e.mine asked.1 (λ z. omega (arith, z)) (record { name = d.0.name; is = d.0.is; stood = d.0.stood; puts = put_puts d.0.name (Lock_cell false) w.heap }, refl, refl)
      by_can (Can_stop h) = absurd h
      by_can (Can_wait h) = absurd h
      by_can (Can_choose body h) = absurd h
      by_can (Can_call callee2 args2 q2 g2) = absurd (cc)
      by_can (Can_spawn callee2 arg2 q2 g2) = absurd (cc)

  -- a Write
  pub write_next : (x con i y m : ℕ) → AtCommand c s w k n values to (Write_op x con i y) place rest value outer below → ThreadIsFine p w n
      → EventAt c o s k (Saw m) s' Ready (Some (instr place (Write to x con i y))) → StepOn p c o s' w n
  write_next x con i y m at fine e = by_can (fine_can p w n (next_of c s w k n values to (Write_op x con i y) place rest value outer below at) fine)
    where
      spot : ℕ
      spot = reg (s.thread k) x + 2 + i

      raw : ℕ
      raw = reg (s.thread k) y

      asked : (counted o (s.thread k) (placed o spot (Stores spot raw)) ≡ Stores spot raw) × ((s.thread k).units < o.steps)
      asked = both_is o (s.thread k) spot (Stores spot raw) (Saw m) (λ h. h) (λ h. h) e.may

      f : EventAs c o s k (Saw m) s' Ready (Some (instr place (Write to x con i y))) (Stores spot raw)
      f = event_as c o s k (Saw m) s' Ready (Some (instr place (Write to x con i y))) (Stores spot raw) e asked.0

      by_can : CanDo p values (Write_op x con i y) w.heap.at → StepOn p c o s' w n
      by_can (Can_act v at' out d) =
          let r = d.0 in
          let at_b : reg (s.thread k) x ≡ r.name = at.regs.agree x ∙ ap raw_value r.is in
          let cell' = Block_cell con r.made.adopter (slice_set r.fields i (values y)) in
          stores_on p c o s s' w S k n values to (Write_op x con i y) place rest value outer below at refl r.name (suc (suc i)) spot (Block_cell con r.made.adopter r.fields) cell'
          e.number (omega (arith, at_b)) r.made.made (omega (arith, r.within)) (ap (λ l. l + 2) (set_long r.fields i (values y))) (λ q z l. set_words con i q r.made.adopter r.fields (values y) z)
          (f.words spot ∙ if_true (spot == spot) (eq-eqb spot spot refl) raw (s.word spot) ∙ at.regs.agree y ∙ sym (set_at r.fields i (values y) r.within))
          (λ q z. f.words q ∙ if_false (spot == q) (ne_eqb spot q (λ h. z (sym h))) raw (s.word q))
          e.blocks (e.born ∙ nil_right s.born) (f.prints ∙ nil_right s.prints) e.others e.mine asked.1 (λ z. omega (arith, z))
          (record { name = r.name; is = r.is; fields = r.fields; made = r.made; within = r.within; puts = put_puts r.name cell' w.heap }, refl, refl)
      by_can (Can_stop h) = absurd h
      by_can (Can_wait h) = absurd h
      by_can (Can_choose body h) = absurd h
      by_can (Can_call callee2 args2 q2 g2) = absurd (cc)
      by_can (Can_spawn callee2 arg2 q2 g2) = absurd (cc)

  -- a Retag
  pub retag_next : (x old new m : ℕ) → AtCommand c s w k n values to (Retag_op x old new) place rest value outer below → ThreadIsFine p w n
      → EventAt c o s k (Saw m) s' Ready (Some (instr place (Retag to x old new))) → StepOn p c o s' w n
  retag_next x old new m at fine e = by_can (fine_can p w n (next_of c s w k n values to (Retag_op x old new) place rest value outer below at) fine)
    where
      spot : ℕ
      spot = reg (s.thread k) x

      asked : (counted o (s.thread k) (placed o spot (Stores spot (new + 1))) ≡ Stores spot (new + 1)) × ((s.thread k).units < o.steps)
      asked = both_is o (s.thread k) spot (Stores spot (new + 1)) (Saw m) (λ h. h) (λ h. h) e.may

      f : EventAs c o s k (Saw m) s' Ready (Some (instr place (Retag to x old new))) (Stores spot (new + 1))
      f = event_as c o s k (Saw m) s' Ready (Some (instr place (Retag to x old new))) (Stores spot (new + 1)) e asked.0

      by_can : CanDo p values (Retag_op x old new) w.heap.at → StepOn p c o s' w n
      by_can (Can_act v at' out d) =
          let r = d.0 in
          stores_on p c o s s' w S k n values to (Retag_op x old new) place rest value outer below at refl r.name 0 spot (Block_cell old r.made.adopter r.fields) (Block_cell new r.made.adopter r.fields)
          e.number (omega (arith, at.regs.agree x, ap raw_value r.is)) r.made.made (omega arith) refl (λ i z l. tag_off old new i r.made.adopter r.fields z)
          (f.words spot ∙ if_true (spot == spot) (eq-eqb spot spot refl) (new + 1) (s.word spot)) (λ q z. f.words q ∙ if_false (spot == q) (ne_eqb spot q (λ h. z (sym h))) (new + 1) (s.word q))
          e.blocks (e.born ∙ nil_right s.born) (f.prints ∙ nil_right s.prints) e.others e.mine asked.1 (λ z. omega (arith, z))
          (record { name = r.name; is = r.is; fields = r.fields; made = r.made; puts = put_puts r.name (Block_cell new r.made.adopter r.fields) w.heap }, refl, refl)
      by_can (Can_stop h) = absurd h
      by_can (Can_wait h) = absurd h
      by_can (Can_choose body h) = absurd h
      by_can (Can_call callee2 args2 q2 g2) = absurd (cc)
      by_can (Can_spawn callee2 arg2 q2 g2) = absurd (cc)
