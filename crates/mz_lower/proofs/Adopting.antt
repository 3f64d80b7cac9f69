-- Give, and the second step of Take: other threads that have seen an adopter keep it.
use Rattle.std.proofs.Common.{◌≡◌, ◌≢◌, ◌<◌, ◌≤◌, ◌==◌, ◌⊎◌, inl, inr, ℕ, zero, suc, ◌+◌, List, [], ◌∷◌, length, Option, Some, None, refl, sym, ap, ◌∙◌, subst, arith, eq-eqb, ne_eqb}
use Rattle.std.specs.Prelude.{slice_get}
use Rattle.std.proofs.lemmas.Bool.{cases_eq}
use Rattle.mz_tree.specs.declared.types.Place.{Place}
use Rattle.mz_tree.specs.Code.{Op, Give_op, Take_op, The_command, Command}
use Rattle.mz_tree.specs.Programs.{Program}
use Rattle.mz_words.specs.declared.code.Act.{Act}
use Rattle.mz_words.specs.declared.code.Act.TheVariants.{Give, Take, Copy, Return, Jump}
use Rattle.mz_words.specs.declared.code.Instr.{Instr}
use Rattle.mz_words.specs.declared.code.Code.{Code}
use Rattle.mz_words.specs.declared.options.Options.{Options}
use Rattle.mz_words.specs.declared.asks.Ask.TheVariants.{Stores}
use Rattle.mz_words.specs.declared.asks.Answer.TheVariants.{Saw}
use Rattle.mz_words.specs.declared.stages.Stage.{Stage}
use Rattle.mz_words.specs.declared.stages.Stage.TheVariants.{Ready, Taking}
use Rattle.mz_words.specs.Steps.{reg, counted, placed}
use Rattle.mz_words.specs.Raw.{Raw}
use Rattle.mz_named.specs.Machine.{Value, Block_value, Block_cell, Environment, TwoBlocks, Level, Suspended, Thread, Config, IsAt, IsFine}
use Rattle.mz_lower.specs.Layout.{instr}
use Rattle.mz_lower.specs.StandsFor.{raw_value, raw_adopter, cell_word, RegistersAgree, ComesTo, Comes_here, Comes_by_jump, WaitingStand, StandsRunning, StageStands}
use Rattle.mz_lower.proofs.Addresses.{remaining, some_inj, if_true, if_false, head_of, branch_end_place, return_place}
use Rattle.mz_lower.proofs.Simulation.{Simulation, EventAt, Inside, Taken}
use Rattle.mz_lower.proofs.CanDo.{ThreadIsFine, CanDo, Can_act, Can_stop, Can_wait, Can_choose, Can_call, Can_spawn, fine_can}
use Rattle.mz_lower.proofs.Binding.{nil_right, AtCommand, frame_at, at_frame, at_op, next_of}
use Rattle.mz_lower.proofs.LocalActs.{StepOn}
use Rattle.mz_lower.proofs.Asked.{both_is, EventAs, event_as}
use Rattle.mz_lower.proofs.FirstInstructions.{act_of, head_act}
use Rattle.mz_lower.proofs.Takes.{both_of}
use Rattle.mz_lower.proofs.Writes.{put_puts, stores_at}

-- a thread that stands at a Take
pub record Taker (c : Code) (s : Raw) (w : Config) (j : ℕ) (a : Act) : Type 0 where
  pub n : ℕ
  pub values : Environment
  pub to : ℕ
  pub place : Place
  pub rest : List Command
  pub value : ℕ
  pub outer : List Level
  pub below : List Suspended
  pub x : ℕ
  pub y : ℕ
  pub at : AtCommand c s w j n values to (Take_op x y) place rest value outer below
  pub act : a ≡ Take to x y

-- a thread past the load of a Take, or its instruction is another and nothing is known
module _ (p : Program) (c : Code) (o : Options) (s : Raw) (w : Config) (S : Simulation p c o s w) (j : ℕ) (i : Instr) (found : slice_get c.instrs (s.thread j).at ≡ Some i) where
  -- no thread but k has seen this adopter word and not yet stored
  abbrev pub NothingTaken : Act → Type 0
  NothingTaken a = (g : ℕ → ℕ) → Taken g S.base_of S.maker (s.thread j) a → ⊥

  other : (place : Place) (a : Act) → slice_get c.instrs (s.thread j).at ≡ Some (instr place a) → NothingTaken a → NothingTaken i.act
  other place a e h = subst (λ (x : Instr). NothingTaken x.act) (some_inj (sym e ∙ found)) h

  by_op : (n : ℕ) (values : Environment) (to : ℕ) (op : Op) (place : Place) (rest : List Command) (value : ℕ) (outer : List Level) (below : List Suspended) → AtCommand c s w j n values to op place rest value outer below
      → slice_get c.instrs (s.thread j).at ≡ Some (instr place (act_of (s.thread j).at to op)) → Taker c s w j i.act ⊎ NothingTaken i.act
  by_op n values to (Take_op x y) place rest value outer below at e = inl (record {
    n = n;
    values = values;
    to = to;
    place = place;
    rest = rest;
    value = value;
    outer = outer;
    below = below;
    x = x;
    y = y;
    at = at;
    act = ap (λ (z : Instr). z.act) (some_inj (sym found ∙ e));
  })
  by_op n values to op place rest value outer below at e = inr (other place (act_of (s.thread j).at to op) e (λ g z. z))

  by_frame : (n : ℕ) (values : Environment) (commands : List Command) (value : ℕ) (outer : List Level) (below : List Suspended) → slice_get s.born n ≡ Some j → slice_get w.threads n ≡ Some (at_frame values (remaining commands value) outer below) → RegistersAgree values (s.thread j).regs
      → ComesTo c.instrs (length (s.thread j).regs) (s.thread j).at (remaining commands value) outer → WaitingStand c.instrs (s.thread j).below below → Taker c s w j i.act ⊎ NothingTaken i.act
  by_frame n values (The_command to op place ∷ rest) value outer below is here regs (Comes_here stands) under =
      by_op n values to op place rest value outer below (record { is = is; here = here; regs = regs; stands = stands; under = under })
      (head_act c.instrs (s.thread j).at to place op (head_of c.instrs (length (s.thread j).regs) (s.thread j).at (The_command to op place) rest value outer stands).0)
  by_frame n values [] value (level ∷ outer) below is here regs (Comes_here stands) under =
      let b = branch_end_place c.instrs (length (s.thread j).regs) (s.thread j).at value level outer stands in inr (other b.place (Copy level.to value) b.copy (λ g z. z))
  by_frame n values [] value [] below is here regs (Comes_here stands) under =
      let r = return_place c.instrs (length (s.thread j).regs) (s.thread j).at value stands in inr (other r.0 (Return value) r.1 (λ g z. z))
  by_frame n values commands value outer below is here regs (Comes_by_jump end place e stands) under = inr (other place (Jump end) e (λ g z. z))

  -- whoever is past the load of a Take stands at that Take
  pub taker_or : (s.thread j).stage ≡ Taking → Taker c s w j i.act ⊎ NothingTaken i.act
  taker_or st =
      let n = S.started j (subst (λ (x : Stage). Rattle.mz_lower.proofs.Simulation.Started x) (sym st) tt) in
      let there = S.stands.threads n.0 j n.1 in
      let r = running (subst (λ (x : Stage). StageStands c.instrs p s.word j (s.thread j) x there.thread) st there.stands) in
      by_frame n.0 r.top.env r.top.rest.commands r.top.rest.value r.top.outer r.below n.1 (there.here ∙ ap Some r.is) r.frames.regs r.frames.place r.frames.under
    where
      running : {u : Thread} → StandsRunning c.instrs (s.thread j) u → StandsRunning c.instrs (s.thread j) u
      running r = r

-- the adopter word of b is stored by thread k: no other thread has seen its adopter there
module _ (p : Program) (c : Code) (o : Options) (s s' : Raw) (w : Config) (S : Simulation p c o s w) (safe : IsFine p w) (k b : ℕ) (words : (q : ℕ) → q ≢ b + 1 → s'.word q ≡ s.word q) where
  -- and what it has seen stays
  pub takes_stay : ((j : ℕ) (a : Act) (t : Taker c s w j a) → j ≢ k → reg (s.thread j) t.x ≡ b → s.word (b + 1) ≡ reg (s.thread j) t.y → ⊥)
      → (j : ℕ) (i : Instr) → j ≢ k → (s.thread j).stage ≡ Taking → slice_get c.instrs (s.thread j).at ≡ Some i → Taken s.word S.base_of S.maker (s.thread j) i.act → Taken s'.word S.base_of S.maker (s.thread j) i.act
  takes_stay never j i far st found h = elim (taker_or p c o s w S j i found st) [
    | inl t ↦ subst (λ (a : Act). Taken s'.word S.base_of S.maker (s.thread j) a) (sym t.act) (stays t (subst (λ (a : Act). Taken s.word S.base_of S.maker (s.thread j) a) t.act h))
    | inr f ↦ absurd (f s.word h)
  ]
    where
      stays : (t : Taker c s w j i.act) → Taken s.word S.base_of S.maker (s.thread j) (Take t.to t.x t.y) → Taken s'.word S.base_of S.maker (s.thread j) (Take t.to t.x t.y)
      stays t q = elim (cases_eq (reg (s.thread j) t.x) b) [
        | inl z ↦ absurd (never j i.act t far z (ap (λ x. s.word (x + 1)) (sym z) ∙ q.0))
        | inr z ↦ (words (reg (s.thread j) t.x + 1) (λ e. z (omega (arith, e))) ∙ q.0, q.1, q.2)
      ]

  -- both blocks of a Give or a Take are complete
  pub both_at : (j : ℕ) (a : Act) (t : Taker c s w j a) → TwoBlocks w.heap.at (t.values t.x) (t.values t.y)
  both_at j a t = both_of p t.values t.x t.y w.heap.at (fine_can p w t.n (next_of c s w j t.n t.values t.to (Take_op t.x t.y) t.place t.rest t.value t.outer t.below t.at) (safe.goes_on t.n _ t.below t.at.here))

  -- a block's address isn't 0
  pub block_high : (a con : ℕ) (adopter : Option ℕ) (fields : List Value) → w.heap.at a ≡ Some (Block_cell con adopter fields) → 197 ≤ a
  block_high a con adopter fields e = omega (arith, S.low (a + 0) a (S.in_block a (length fields + 2) 0 (S.stands.blocks a (Block_cell con adopter fields) e).complete (omega arith)))

adopter_words : (con : ℕ) (x y : Option ℕ) (fields : List Value) (m : ℕ) → m ≢ 1 → cell_word (Block_cell con x fields) m ≡ cell_word (Block_cell con y fields) m
adopter_words con x y fields zero n = refl
adopter_words con x y fields (suc zero) n = absurd (n refl)
adopter_words con x y fields (suc (suc m)) n = refl

module _ (p : Program) (c : Code) (o : Options) (s s' : Raw) (w : Config) (S : Simulation p c o s w) (safe : IsFine p w) (k n : ℕ) (values : Environment) (to : ℕ) (place : Place) (rest : List Command) (value : ℕ) (outer : List Level) (below : List Suspended) where
  -- the store of a Give gives its named step
  pub give_next : (x y m : ℕ) → AtCommand c s w k n values to (Give_op x y) place rest value outer below → ThreadIsFine p w n
      → EventAt c o s k (Saw m) s' Ready (Some (instr place (Give to x y))) → StepOn p c o s' w n
  give_next x y m at fine e = by_can (fine_can p w n (next_of c s w k n values to (Give_op x y) place rest value outer below at) fine)
    where
      spot : ℕ
      spot = reg (s.thread k) x + 1

      raw : ℕ
      raw = reg (s.thread k) y

      asked : (counted o (s.thread k) (placed o spot (Stores spot raw)) ≡ Stores spot raw) × ((s.thread k).units < o.steps)
      asked = both_is o (s.thread k) spot (Stores spot raw) (Saw m) (λ h. h) (λ h. h) e.may

      f : EventAs c o s k (Saw m) s' Ready (Some (instr place (Give to x y))) (Stores spot raw)
      f = event_as c o s k (Saw m) s' Ready (Some (instr place (Give to x y))) (Stores spot raw) e asked.0

      words : (q : ℕ) → q ≢ spot → s'.word q ≡ s.word q
      words q d = f.words q ∙ if_false (spot == q) (ne_eqb spot q (λ z. d (sym z))) raw (s.word q)

      by_can : CanDo p values (Give_op x y) w.heap.at → StepOn p c o s' w n
      by_can (Can_act v at' out d) =
          let r = d.0.both in
          let was : w.heap.at r.block ≡ Some (Block_cell r.con None r.fields) = r.made ∙ ap (λ z. Some (Block_cell r.con z r.fields)) d.0.free in
          let at_b : reg (s.thread k) x ≡ r.block = at.regs.agree x ∙ ap raw_value r.is_block in
          let at_a : raw ≡ r.adopter = at.regs.agree y ∙ ap raw_value r.is_adopter in
          let spot_is : spot ≡ r.block + 1 = omega (arith, at_b) in
          stores_at p c o s s' w S k n values to (Give_op x y) place rest value outer below at refl r.block (suc zero) spot (Block_cell r.con None r.fields) (Block_cell r.con (Some r.adopter) r.fields)
          e.number (omega (arith, at_b)) was (omega arith) refl (λ i z l. adopter_words r.con (Some r.adopter) None r.fields i z)
          (f.words spot ∙ if_true (spot == spot) (eq-eqb spot spot refl) raw (s.word spot) ∙ at_a) words e.blocks (e.born ∙ nil_right s.born) (f.prints ∙ nil_right s.prints) e.others e.mine asked.1
          (takes_stay p c o s s' w S safe k r.block (λ q z. words q (λ h. z (h ∙ spot_is)))
          (λ j a t far same h.
          let both = both_at p c o s s' w S safe k r.block (λ q z. words q (λ h. z (h ∙ spot_is))) j a t in
          let none = (S.stands.blocks r.block (Block_cell r.con None r.fields) was).words (suc zero) (omega arith) in
          let high = block_high p c o s s' w S safe k r.block (λ q z. words q (λ h. z (h ∙ spot_is))) both.adopter both.other both.pool.adopter both.more both.pool.made in
          omega (arith, h, none, t.at.regs.agree t.y, ap raw_value both.is_adopter, high)))
          (record { both = r; free = d.0.free; puts = put_puts r.block (Block_cell r.con (Some r.adopter) r.fields) w.heap }, refl, refl)
      by_can (Can_stop z) = absurd z
      by_can (Can_wait z) = absurd z
      by_can (Can_choose body z) = absurd z
      by_can (Can_call callee2 args2 q2 g2) = absurd (cc)
      by_can (Can_spawn callee2 arg2 q2 g2) = absurd (cc)

  -- the store that takes the block out of its adopter
  pub clear_next : (x y m : ℕ) → AtCommand c s w k n values to (Take_op x y) place rest value outer below → ThreadIsFine p w n
      → EventAt c o s k (Saw m) s' Taking (Some (instr place (Take to x y))) → StepOn p c o s' w n
  clear_next x y m at fine e = by_can (fine_can p w n next fine)
    where
      next : IsAt w n (frame_at values (at_op to (Take_op x y) place rest value) outer) below (The_command to (Take_op x y) place) rest
      next = next_of c s w k n values to (Take_op x y) place rest value outer below at

      spot : ℕ
      spot = reg (s.thread k) x + 1

      asked : (counted o (s.thread k) (placed o spot (Stores spot 0)) ≡ Stores spot 0) × ((s.thread k).units < o.steps)
      asked = both_is o (s.thread k) spot (Stores spot 0) (Saw m) (λ h. h) (λ h. h) e.may

      f : EventAs c o s k (Saw m) s' Taking (Some (instr place (Take to x y))) (Stores spot 0)
      f = event_as c o s k (Saw m) s' Taking (Some (instr place (Take to x y))) (Stores spot 0) e asked.0

      words : (q : ℕ) → q ≢ spot → s'.word q ≡ s.word q
      words q d = f.words q ∙ if_false (spot == q) (ne_eqb spot q (λ z. d (sym z))) 0 (s.word q)

      seen : Taken s.word S.base_of S.maker (s.thread k) (Take to x y)
      seen = subst (λ (z : Option Instr). Inside s.word w S.base_of S.maker S.spawner k (s.thread k) Taking z) e.at_instr
          (subst (λ (z : Stage). Inside s.word w S.base_of S.maker S.spawner k (s.thread k) z (slice_get c.instrs (s.thread k).at)) e.at_stage (S.inside k))

      -- the adopter that was seen is still that of the block
      adopter_is : (adopter : Option ℕ) (a : ℕ) → raw_adopter adopter ≡ a → 197 ≤ a → adopter ≡ Some a
      adopter_is None a h l = absurd (omega (arith, h, l))
      adopter_is (Some z) a h l = ap Some h

      by_can : CanDo p values (Take_op x y) w.heap.at → StepOn p c o s' w n
      by_can (Can_act v at' out d) =
          let r = d.0.both in
          let was : w.heap.at r.block ≡ Some (Block_cell r.con (Some r.adopter) r.fields) = r.made ∙ ap (λ z. Some (Block_cell r.con z r.fields)) d.0.its in
          let at_b : reg (s.thread k) x ≡ r.block = at.regs.agree x ∙ ap raw_value r.is_block in
          let at_a : reg (s.thread k) y ≡ r.adopter = at.regs.agree y ∙ ap raw_value r.is_adopter in
          let spot_is : spot ≡ r.block + 1 = omega (arith, at_b) in
          stores_at p c o s s' w S k n values to (Take_op x y) place rest value outer below at refl r.block (suc zero) spot (Block_cell r.con (Some r.adopter) r.fields) (Block_cell r.con None r.fields)
          e.number (omega (arith, at_b)) was (omega arith) refl (λ i z l. adopter_words r.con None (Some r.adopter) r.fields i z)
          (f.words spot ∙ if_true (spot == spot) (eq-eqb spot spot refl) 0 (s.word spot)) words e.blocks (e.born ∙ nil_right s.born) (f.prints ∙ nil_right s.prints) e.others e.mine asked.1
          (takes_stay p c o s s' w S safe k r.block (λ q z. words q (λ h. z (h ∙ spot_is)))
          (λ j a t far there h.
          let both = both_at p c o s s' w S safe k r.block (λ q z. words q (λ h. z (h ∙ spot_is))) j a t in
          let same : both.adopter ≡ r.adopter = sym (t.at.regs.agree t.y ∙ ap raw_value both.is_adopter) ∙ sym h ∙ ap s.word (sym spot_is) ∙ seen.0 ∙ at_a in
          let differ : n ≢ t.n = λ z. far (some_inj (sym t.at.is ∙ ap (slice_get s.born) (sym z) ∙ at.is)) in
          safe.no_race (record {
            one = n;
            two = t.n;
            differ = differ;
            frame = frame_at values (at_op to (Take_op x y) place rest value) outer;
            below = below;
            command = The_command to (Take_op x y) place;
            rest = rest;
            stands = next;
            frame2 = frame_at t.values (at_op t.to (Take_op t.x t.y) t.place t.rest t.value) t.outer;
            below2 = t.below;
            command2 = The_command t.to (Take_op t.x t.y) t.place;
            rest2 = t.rest;
            stands2 = next_of c s w j t.n t.values t.to (Take_op t.x t.y) t.place t.rest t.value t.outer t.below t.at;
            block = r.adopter;
            writes = r.is_adopter;
            touches = both.is_adopter ∙ ap Block_value same;
          })))
          (record { both = r; its = d.0.its; puts = put_puts r.block (Block_cell r.con None r.fields) w.heap }, refl, refl)
      by_can (Can_stop d) =
          let r = d.both in
          let at_b : reg (s.thread k) x ≡ r.block = at.regs.agree x ∙ ap raw_value r.is_block in
          let at_a : reg (s.thread k) y ≡ r.adopter = at.regs.agree y ∙ ap raw_value r.is_adopter in
          let word = (S.stands.blocks r.block (Block_cell r.con r.held_by r.fields) r.made).words (suc zero) (omega arith) in
          let high : 197 ≤ r.adopter = omega (arith, S.low (r.adopter + 0) r.adopter (S.in_block r.adopter (length r.more + 2) 0 (S.stands.blocks r.adopter (Block_cell r.other r.pool.adopter r.more) r.pool.made).complete (omega arith))) in
          absurd (d.not_its (adopter_is r.held_by r.adopter (sym word ∙ ap (λ z. s.word (z + 1)) (sym at_b) ∙ seen.0 ∙ at_a) high))
      by_can (Can_wait z) = absurd z
      by_can (Can_choose body z) = absurd z
      by_can (Can_call callee2 args2 q2 g2) = absurd (cc)
      by_can (Can_spawn callee2 arg2 q2 g2) = absurd (cc)
