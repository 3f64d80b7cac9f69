-- The steps of a Spawn.
use Rattle.std.proofs.Common.{◌≡◌, ◌≢◌, ◌<◌, ◌≤◌, ◌==◌, ℕ, zero, suc, ◌+◌, ◌*◌, ◌%◌, ◌^◌, List, Option, Some, ltb, refl, sym, ap, ◌∙◌, subst, arith, eq-eqb, ne_eqb}
use Rattle.std.specs.Prelude.{slice_get}
use Rattle.std.proofs.Math.Nat.{mod-eq_of_lt}
use Rattle.std.proofs.lemmas.Bool.{ltb-true}
use Rattle.mz_tree.specs.declared.types.Place.{Place}
use Rattle.mz_tree.specs.Code.{Spawn_op, Command}
use Rattle.mz_tree.specs.Programs.{Program}
use Rattle.mz_words.specs.declared.code.Act.TheVariants.{Spawn}
use Rattle.mz_words.specs.declared.code.Instr.{Instr}
use Rattle.mz_words.specs.declared.code.Start.{Start}
use Rattle.mz_words.specs.declared.code.Code.{Code}
use Rattle.mz_words.specs.declared.options.Options.{Options}
use Rattle.mz_words.specs.declared.ends.End.TheVariants as ending
use Rattle.mz_words.specs.declared.asks.Ask.{Ask}
use Rattle.mz_words.specs.declared.asks.Ask.TheVariants.{Adds, Stores}
use Rattle.mz_words.specs.declared.asks.Answer.{Answer}
use Rattle.mz_words.specs.declared.asks.Answer.TheVariants.{Saw}
use Rattle.mz_words.specs.declared.stages.Stage.{Stage}
use Rattle.mz_words.specs.declared.stages.Stage.TheVariants.{Ready, Spawning}
use Rattle.mz_words.specs.Steps.{reg, counted, callee_of, ask_spawn, unit_at, stop}
use Rattle.mz_words.specs.Raw.{Raw}
use Rattle.mz_named.specs.Machine.{Config, Cells, Thread, Environment, Level, Suspended, IsFunction}
use Rattle.mz_lower.specs.Layout.{instr}
use Rattle.mz_lower.specs.StandsFor.{raw_value, StandsRunning}
use Rattle.mz_lower.proofs.Addresses.{some_inj, none_some, if_true, if_false}
use Rattle.mz_lower.proofs.Changes.{total_most}
use Rattle.mz_lower.proofs.Simulation.{Simulation, Drawn, Inside, EventAt}
use Rattle.mz_lower.proofs.CanDo.{ThreadIsFine, CanDo, Can_act, Can_stop, Can_wait, Can_choose, Can_call, Can_spawn, fine_can}
use Rattle.mz_lower.proofs.Binding.{nil_right, AtCommand, at_frame, at_op, next_of}
use Rattle.mz_lower.proofs.LocalActs.{KeptAs}
use Rattle.mz_lower.proofs.Asked.{counted_is, EventAs, event_as}
use Rattle.mz_lower.proofs.Making.{Limited}
use Rattle.mz_lower.proofs.NewBlocks.{by_bit, running_at}
use Rattle.mz_lower.proofs.Calls.{Coded, begins}
use Rattle.mz_lower.proofs.Spawning.{with_spawner, header_on, wakes}

callee_inj : {a b c d : ℕ} → Spawn_op a b ≡ Spawn_op c d → (a ≡ c) × (b ≡ d)
callee_inj e = (cc, cc)

-- the callee of a Spawn is a function of one parameter
pub spawnee : (p : Program) (values : Environment) (callee arg : ℕ) (at : Cells) → CanDo p values (Spawn_op callee arg) at → IsFunction p (values callee) 1
spawnee p values callee arg at (Can_act v at' out z) = absurd z
spawnee p values callee arg at (Can_stop z) = absurd z
spawnee p values callee arg at (Can_wait z) = absurd z
spawnee p values callee arg at (Can_choose body z) = absurd z
spawnee p values callee arg at (Can_call callee2 args2 q2 g2) = absurd (cc)
spawnee p values callee arg at (Can_spawn callee2 arg2 q function) = subst (λ x. IsFunction p (values x) 1) (sym (callee_inj q).0) function

module _ (p : Program) (c : Code) (coded : Coded p c) (o : Options) (limited : Limited o) (s s' : Raw) (w : Config) (S : Simulation p c o s w) (k n : ℕ) (values : Environment) (to : ℕ) (place : Place) (rest : List Command) (value : ℕ) (outer : List Level) (below : List Suspended) (callee arg : ℕ)
    (at : AtCommand c s w k n values to (Spawn_op callee arg) place rest value outer below) (fine : ThreadIsFine p w n) where
  it : IsFunction p (values callee) 1
  it = spawnee p values callee arg w.heap.at (fine_can p w n (next_of c s w k n values to (Spawn_op callee arg) place rest value outer below at) fine)

  abbrev u0 : Thread
  u0 = at_frame values (at_op to (Spawn_op callee arg) place rest value) outer below

  -- the callee is a function of one parameter: the step is asked
  pub spawn_asks : counted o (s.thread k) (ask_spawn (callee_of c (reg (s.thread k) callee) 1)) ≡ counted o (s.thread k) (Adds 1 1)
  spawn_asks = ap (λ (x : Option Start). counted o (s.thread k) (ask_spawn x)) (ap (λ x. callee_of c x 1) (at.regs.agree callee ∙ ap raw_value it.is) ∙ (begins p c coded (values callee) 1 it).found)

  run : StandsRunning c.instrs (s.thread k) u0
  run = running_at c s w k n values to (Spawn_op callee arg) place rest value outer below at

  -- a number is drawn
  pub spawn_draws : (m : ℕ) → EventAt c o s k (Saw m) s' Ready (Some (instr place (Spawn to callee arg))) → Simulation p c o s' w
  spawn_draws m e = by_bit (Simulation p c o s' w) (ltb m 64) _ _ (s'.thread k) e.mine
      (λ b q. header_on p c o s s' w S k n u0 e.number 1 (omega arith) words e.blocks (e.born ∙ nil_right s.born) (f.prints ∙ nil_right s.prints) e.others asked.1 at.is at.here
      (unit_at (Spawning m 0) (s.thread k)) q refl (with_spawner m (Some k) S.spawner)
      (λ z. omega (arith, z)) (omega (arith, next_is, f.agrees)) (omega (arith, next_is, f.agrees))
      (record { top = run.top; below = run.below; is = run.is; frames = record { regs = run.frames.regs; place = run.frames.place; under = run.frames.under } })
      (λ j x z. (let old = S.born_drawn x j z in ((λ h. omega (arith, h)), (λ h. omega (arith, h)), other j (λ h. omega (arith, h, old.0, f.agrees)) ∙ old.1)))
      (λ j h. omega (arith, h))
      (λ j l. other j (λ h. omega (arith, h, l, next_is)) ∙ S.undrawn j (omega (arith, l, next_is, f.agrees)))
      (λ j x d h. (other j (λ z. none_some (S.undrawn j (omega (arith, z, f.agrees))) h) ∙ h, (λ z. omega (arith, z)), (λ z. omega (arith, z))))
      (subst (λ (x : Option Instr). Inside s'.word w S.base_of S.maker (with_spawner m (Some k) S.spawner) k (unit_at (Spawning m 0) (s.thread k)) (Spawning m 0) x) (sym e.at_instr) (drawn (ltb-true m 64 b))))
      (λ b q. header_on p c o s s' w S k n u0 e.number 1 (omega arith) words e.blocks (e.born ∙ nil_right s.born) (f.prints ∙ nil_right s.prints) e.others asked.1 at.is at.here
      (stop (ending.ThreadsFull place) (unit_at Ready (s.thread k))) q refl S.spawner
      (λ z. omega (arith, z)) (omega (arith, next_is, f.agrees)) (omega (arith, next_is, f.agrees))
      (record { top = run.top; below = run.below; is = run.is; frames = record { regs = run.frames.regs; place = run.frames.place; under = run.frames.under } })
      (λ j x z. ((λ h. omega (arith, h)), (λ h. omega (arith, h)), (S.born_drawn x j z).1))
      (λ j h. omega (arith, h))
      (λ j l. S.undrawn j (omega (arith, l, next_is, f.agrees)))
      (λ j x d h. (h, (λ z. omega (arith, z)), (λ z. omega (arith, z)))) tt)
    where
      asked : (counted o (s.thread k) (ask_spawn (callee_of c (reg (s.thread k) callee) 1)) ≡ Adds 1 1) × ((s.thread k).units < o.steps)
      asked = let z = counted_is o (s.thread k) (Adds 1 1) (Saw m) (λ h. h) (subst (λ (x : Ask). Rattle.mz_words.specs.Answers.May x (Saw m)) spawn_asks e.may) in (spawn_asks ∙ z.0, z.1)

      f : EventAs c o s k (Saw m) s' Ready (Some (instr place (Spawn to callee arg))) (Adds 1 1)
      f = event_as c o s k (Saw m) s' Ready (Some (instr place (Spawn to callee arg))) (Adds 1 1) e asked.0

      words : (q : ℕ) → q ≢ 1 → s'.word q ≡ s.word q
      words q d = f.words q ∙ if_false (1 == q) (ne_eqb 1 q (λ z. d (sym z))) ((s.word q + 1) % 2 ^ 64) (s.word q)

      next_is : s'.word 1 ≡ m + 1
      next_is =
          let small : s.word 1 + 1 < 2 ^ 64 = omega (arith, S.next_most, total_most (λ j. (s.thread j).units) o.steps S.units 64, limited.steps) in
          f.words 1 ∙ mod-eq_of_lt small ∙ ap (λ x. x + 1) (sym f.agrees)

      other : (j : ℕ) → j ≢ m → with_spawner m (Some k) S.spawner j ≡ S.spawner j
      other j d = if_false (j == m) (ne_eqb j m d) (Some k) (S.spawner j)

      drawn : m < 64 → Drawn s'.word (with_spawner m (Some k) S.spawner) k (unit_at (Spawning m 0) (s.thread k)) callee arg m 0
      drawn l = record {
        mine = if_true (m == m) (eq-eqb m m refl) (Some k) (S.spawner m);
        low = omega (arith, S.next, f.agrees);
        high = l;
        few = omega arith;
        stored_fun = λ z. absurd (omega (arith, z));
        stored_arg = λ z. absurd (omega (arith, z));
      }

  drawn_here : (answer : Answer) (j i : ℕ) → EventAt c o s k answer s' (Spawning j i) (Some (instr place (Spawn to callee arg))) → Drawn s.word S.spawner k (s.thread k) callee arg j i
  drawn_here answer j i e =
      subst (λ (x : Option Instr). Inside s.word w S.base_of S.maker S.spawner k (s.thread k) (Spawning j i) x) e.at_instr
      (subst (λ (x : Stage). Inside s.word w S.base_of S.maker S.spawner k (s.thread k) x (slice_get c.instrs (s.thread k).at)) e.at_stage (S.inside k))

  -- LIVE, FUN or ARG
  store_next : (j i spot : ℕ) → k < 64 → spot < 197 → spot ≢ 0 → spot ≢ 1 → ((q : ℕ) → q ≢ spot → s'.word q ≡ s.word q) → ((b : ℕ) → s'.blocks b ≡ s.blocks b) → s'.born ≡ s.born → s'.prints ≡ s.prints → ((x : ℕ) → x ≢ k → s'.thread x ≡ s.thread x)
      → (s.thread k).units < o.steps → s'.thread k ≡ unit_at (Spawning j (i + 1)) (s.thread k) → slice_get c.instrs (s.thread k).at ≡ Some (instr place (Spawn to callee arg)) → Drawn s.word S.spawner k (s.thread k) callee arg j i → i < 3
      → ((x : ℕ) → x ≢ j → (6 + 3 * x ≢ spot) × (7 + 3 * x ≢ spot)) → ((x : ℕ) → 5 + 3 * x ≢ spot) → (2 ≤ i + 1 → s'.word (6 + 3 * j) ≡ reg (s.thread k) callee) → (3 ≤ i + 1 → s'.word (7 + 3 * j) ≡ reg (s.thread k) arg) → Simulation p c o s' w
  store_next j i spot number low off0 off1 words blocks born prints others units mine instr_is d few apart ready fun_word arg_word =
      header_on p c o s s' w S k n u0 number spot low words blocks born prints others units at.is at.here (unit_at (Spawning j (i + 1)) (s.thread k)) mine refl S.spawner
      off0 (omega (arith, words 1 (λ e. off1 (sym e)))) (omega (arith, words 1 (λ e. off1 (sym e))))
      (record { top = run.top; below = run.below; is = run.is; frames = record { regs = run.frames.regs; place = run.frames.place; under = run.frames.under } })
      (λ x m e. (let old = S.born_drawn m x e in
      let far : x ≢ j = λ z. none_some old.1 (subst (λ y. S.spawner y ≡ Some k) (sym z) d.mine) in
      ((apart x far).0, (apart x far).1, old.1)))
      ready
      (λ x l. S.undrawn x (subst (λ y. y ≤ x) (words 1 (λ e. off1 (sym e))) l))
      (λ x y far e. (let z : x ≢ j = λ q. far (some_inj (sym e ∙ ap S.spawner q ∙ d.mine)) in (e, (apart x z).0, (apart x z).1)))
      (subst (λ (x : Option Instr). Inside s'.word w S.base_of S.maker S.spawner k (unit_at (Spawning j (i + 1)) (s.thread k)) (Spawning j (i + 1)) x) (sym instr_is)
      (record { mine = d.mine; low = d.low; high = d.high; few = omega (arith, few); stored_fun = fun_word; stored_arg = arg_word }))

  -- each store of a Spawn; the last one gives its named step
  pub spawn_stores : (j i m : ℕ) → EventAt c o s k (Saw m) s' (Spawning j i) (Some (instr place (Spawn to callee arg))) → KeptAs p c o s s' w k (i == 3)
  spawn_stores j zero m e =
      let d = drawn_here (Saw m) j zero e in
      let asked = counted_is o (s.thread k) (Adds 2 1) (Saw m) (λ h. h) e.may in
      let f = event_as c o s k (Saw m) s' (Spawning j zero) (Some (instr place (Spawn to callee arg))) (Adds 2 1) e asked.0 in
      (store_next j 0 2 e.number (omega arith) (λ z. omega (arith, z)) (λ z. omega (arith, z)) (λ q z. f.words q ∙ if_false (2 == q) (ne_eqb 2 q (λ h. z (sym h))) ((s.word q + 1) % 2 ^ 64) (s.word q))
      e.blocks (e.born ∙ nil_right s.born) (f.prints ∙ nil_right s.prints) e.others asked.1 e.mine e.at_instr d (omega arith)
      (λ x z. ((λ h. omega (arith, h)), (λ h. omega (arith, h)))) (λ x h. omega (arith, h)) (λ l. absurd (omega (arith, l))) (λ l. absurd (omega (arith, l))))
  spawn_stores j (suc zero) m e =
      let d = drawn_here (Saw m) j (suc zero) e in
      let spot = 6 + 3 * j in
      let raw = reg (s.thread k) callee in
      let asked = counted_is o (s.thread k) (Stores spot raw) (Saw m) (λ h. h) e.may in
      let f = event_as c o s k (Saw m) s' (Spawning j (suc zero)) (Some (instr place (Spawn to callee arg))) (Stores spot raw) e asked.0 in
      (store_next j 1 spot e.number (omega (arith, d.high)) (λ z. omega (arith, z)) (λ z. omega (arith, z)) (λ q z. f.words q ∙ if_false (spot == q) (ne_eqb spot q (λ h. z (sym h))) raw (s.word q))
      e.blocks (e.born ∙ nil_right s.born) (f.prints ∙ nil_right s.prints) e.others asked.1 e.mine e.at_instr d (omega arith)
      (λ x z. ((λ h. z (omega (arith, h))), (λ h. omega (arith, h)))) (λ x h. omega (arith, h)) (λ l. f.words spot ∙ if_true (spot == spot) (eq-eqb spot spot refl) raw (s.word spot)) (λ l. absurd (omega (arith, l))))
  spawn_stores j (suc (suc zero)) m e =
      let d = drawn_here (Saw m) j (suc (suc zero)) e in
      let spot = 7 + 3 * j in
      let raw = reg (s.thread k) arg in
      let asked = counted_is o (s.thread k) (Stores spot raw) (Saw m) (λ h. h) e.may in
      let f = event_as c o s k (Saw m) s' (Spawning j (suc (suc zero))) (Some (instr place (Spawn to callee arg))) (Stores spot raw) e asked.0 in
      (store_next j 2 spot e.number (omega (arith, d.high)) (λ z. omega (arith, z)) (λ z. omega (arith, z)) (λ q z. f.words q ∙ if_false (spot == q) (ne_eqb spot q (λ h. z (sym h))) raw (s.word q))
      e.blocks (e.born ∙ nil_right s.born) (f.prints ∙ nil_right s.prints) e.others asked.1 e.mine e.at_instr d (omega arith)
      (λ x z. ((λ h. omega (arith, h)), (λ h. z (omega (arith, h))))) (λ x h. omega (arith, h))
      (λ l. f.words (6 + 3 * j) ∙ if_false (spot == 6 + 3 * j) (ne_eqb spot (6 + 3 * j) (λ h. omega (arith, h))) raw (s.word (6 + 3 * j)) ∙ d.stored_fun (omega arith))
      (λ l. f.words spot ∙ if_true (spot == spot) (eq-eqb spot spot refl) raw (s.word spot)))
  spawn_stores j (suc (suc (suc zero))) m e =
      let d = drawn_here (Saw m) j (suc (suc (suc zero))) e in
      let spot = 5 + 3 * j in
      let asked = counted_is o (s.thread k) (Stores spot 1) (Saw m) (λ h. h) e.may in
      let f = event_as c o s k (Saw m) s' (Spawning j (suc (suc (suc zero)))) (Some (instr place (Spawn to callee arg))) (Stores spot 1) e asked.0 in (
        n,
        at.is,
        wakes p c o s s' w S k n values to place rest value outer below callee arg j at it e.number d
            (f.words spot ∙ if_true (spot == spot) (eq-eqb spot spot refl) 1 (s.word spot)) (λ q z. f.words q ∙ if_false (spot == q) (ne_eqb spot q (λ h. z (sym h))) 1 (s.word q))
            e.blocks e.born (f.prints ∙ nil_right s.prints) e.others e.mine asked.1,
      )
  spawn_stores j (suc (suc (suc (suc i)))) m e = absurd (omega (arith, (drawn_here (Saw m) j (suc (suc (suc (suc i)))) e).few))
