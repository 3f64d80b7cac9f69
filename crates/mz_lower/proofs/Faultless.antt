-- Whoever asks nothing is over, and no thread is at fault.
use Rattle.std.proofs.Common.{◌≤◌, ◌≡◌, ◌<◌, inl, inr, ℕ, zero, suc, ◌+◌, length, Option, Some, Bool, true, false, leb, ltb, refl, sym, ap, ◌∙◌, subst, arith}
use Rattle.std.specs.Prelude.{slice_get, if◌then◌else◌}
use Rattle.std.proofs.lemmas.Bool.{lt-ltb}
use Rattle.mz_tree.specs.Programs.{Program}
use Rattle.mz_words.specs.declared.code.Act.{Act}
use Rattle.mz_words.specs.declared.code.Act.TheVariants.{New, Read, Write, Retag, Switch, Call, Give, Take, NewLock, Acquire, Release, Spawn, Print}
use Rattle.mz_words.specs.declared.code.Instr.{Instr}
use Rattle.mz_words.specs.declared.code.Start.{Start}
use Rattle.mz_words.specs.declared.code.Code.{Code}
use Rattle.mz_words.specs.declared.options.Options.{Options}
use Rattle.mz_words.specs.declared.ends.End.{End}
use Rattle.mz_words.specs.declared.ends.End.TheVariants as ending
use Rattle.mz_words.specs.declared.asks.Ask.{Ask}
use Rattle.mz_words.specs.declared.asks.Ask.TheVariants.{Local, Frames, Looks, Nothing}
use Rattle.mz_words.specs.declared.words.Until.TheVariants.{NotZero}
use Rattle.mz_words.specs.declared.stages.Stage.{Stage}
use Rattle.mz_words.specs.declared.stages.Stage.TheVariants.{Idle, IdleStop, IdleLive, LoadFun, LoadArg, Entering, Border, Ready, Making, Taking, Spawning, Unmatched, Closing, Over}
use Rattle.mz_words.specs.Standing.{Standing}
use Rattle.mz_words.specs.Steps.{reg, counted, placed, ask_act, ask_making, ask_taking, ask_spawning, spawn_step, ask_call, ask_spawn, ask_frame, ask_closing, ask_found, ask_at, ask, callee_of, is_full, first_params}
use Rattle.mz_words.specs.Raw.{Raw}
use Rattle.mz_named.specs.Machine.{Config, Thread, IsFine}
use Rattle.mz_lower.specs.StandsFor.{raw_value, StandsRunning, StageStands}
use Rattle.mz_words.specs.Faults.{IsSoundAct, IsSound, IsAtInstruction, NoFault}
use Rattle.mz_lower.proofs.Simulation.{Simulation, HalfMade, Taken, Spawned, Inside, Started, Dormant}
use Rattle.mz_lower.proofs.Addresses.{if_true}
use Rattle.mz_lower.proofs.Calls.{Coded, begins}
use Rattle.mz_lower.proofs.Idle.{find_in}
use Rattle.mz_lower.proofs.SoundActs.{runs_sound}

-- ---- what is asked is something

abbrev Something : Ask → Type 0
Something a = a ≡ Nothing → ⊥

counted_some : (o : Options) (t : Standing) (x : Ask) → Something x → Something (counted o t x)
counted_some o t x f = by (leb o.steps t.units)
  where
    by : (b : Bool) → Something (if b then Local else x)
    by true e = absurd (cc)
    by false e = f e

placed_some : (o : Options) (place : ℕ) (x : Ask) → place < o.heap → Something x → Something (placed o place x)
placed_some o place x l f e = f (sym (if_true (ltb place o.heap) (lt-ltb place o.heap l) x Nothing) ∙ e)

both_some : (o : Options) (t : Standing) (place : ℕ) (x : Ask) → place < o.heap → Something x → Something (counted o t (placed o place x))
both_some o t place x l f = counted_some o t (placed o place x) (placed_some o place x l f)

call_some : (t : Standing) (a : Option Start) (start : Start) → a ≡ Some start → Something (ask_call t a)
call_some t a start q = subst (λ (x : Option Start). Something (ask_call t x)) (sym q) (by (is_full t start))
  where
    by : (b : Bool) → Something (if b then Local else Frames start.registers)
    by true e = absurd (cc)
    by false e = absurd (cc)

spawn_some : (a : Option Start) (start : Start) → a ≡ Some start → Something (ask_spawn a)
spawn_some a start q = subst (λ (x : Option Start). Something (ask_spawn x)) (sym q) some
  where
    some : Something (ask_spawn (Some start))
    some e = absurd (cc)

frame_some : (a : Option Start) (start : Start) → a ≡ Some start → Something (ask_frame a)
frame_some a start q = subst (λ (x : Option Start). Something (ask_frame x)) (sym q) some
  where
    some : Something (ask_frame (Some start))
    some e = absurd (cc)

spawning_some : (t : Standing) (callee arg k i : ℕ) → Something (spawn_step t callee arg k i)
spawning_some t callee arg k zero e = absurd (cc)
spawning_some t callee arg k (suc zero) e = absurd (cc)
spawning_some t callee arg k (suc (suc zero)) e = absurd (cc)
spawning_some t callee arg k (suc (suc (suc i))) e = absurd (cc)

closing_some : (e : End) → Something (ask_closing e)
closing_some ending.Done q = absurd (cc)
closing_some e q = absurd (cc)

module _ (p : Program) (c : Code) (coded : Coded p c) (o : Options) (s : Raw) (w : Config) (S : Simulation p c o s w) (safe : IsFine p w) where
  inside_heap : (b n i : ℕ) → s.blocks b ≡ Some n → i < n → b + i < o.heap
  inside_heap b n i e l = S.within_heap (b + i) b (S.in_block b n i e l)

  -- a sound act asks something
  act_some : (t : Standing) (a : Act) → IsSoundAct c s t a → Something (ask_act c o t a)
  act_some t (New to con fields) d = counted_some o t _ (λ e. absurd (cc))
  act_some t (Read to block con field) d = both_some o t (reg t block + 2 + field) _ (omega (arith, inside_heap (reg t block) (d.block.fields + 2) (2 + field) d.block.complete (omega (arith, d.within)))) (λ e. absurd (cc))
  act_some t (Write to block con field source) d = both_some o t (reg t block + 2 + field) _ (omega (arith, inside_heap (reg t block) (d.block.fields + 2) (2 + field) d.block.complete (omega (arith, d.within)))) (λ e. absurd (cc))
  act_some t (Retag to block old con) d = both_some o t (reg t block) _ (omega (arith, inside_heap (reg t block) (d.0.fields + 2) 0 d.0.complete (omega arith))) (λ e. absurd (cc))
  act_some t (Switch block cons targets) d = both_some o t (reg t block) _ (omega (arith, inside_heap (reg t block) (d.0.fields + 2) 0 d.0.complete (omega arith))) (λ e. absurd (cc))
  act_some t (Call to callee args) d = counted_some o t _ (call_some t (callee_of c (reg t callee) (length args)) d.0 d.1)
  act_some t (Give to block adopter) d = both_some o t (reg t block + 1) _ (inside_heap (reg t block) (d.0.fields + 2) 1 d.0.complete (omega arith)) (λ e. absurd (cc))
  act_some t (Take to block adopter) d = both_some o t (reg t block + 1) _ (inside_heap (reg t block) (d.0.fields + 2) 1 d.0.complete (omega arith)) (λ e. absurd (cc))
  act_some t (NewLock to) d = counted_some o t _ (λ e. absurd (cc))
  act_some t (Acquire to lock) d = both_some o t (reg t lock) _ (omega (arith, inside_heap (reg t lock) 1 0 d (omega arith))) (λ e. absurd (cc))
  act_some t (Release to lock) d = both_some o t (reg t lock) _ (omega (arith, inside_heap (reg t lock) 1 0 d (omega arith))) (λ e. absurd (cc))
  act_some t (Spawn to callee arg) d = counted_some o t _ (spawn_some (callee_of c (reg t callee) 1) d.0 d.1)
  act_some t (Print to source) d = counted_some o t _ (λ e. absurd (cc))
  act_some t a d = local_some
    where
      local_some : Something Local
      local_some e = absurd (cc)

  making_some : (k b i : ℕ) (t : Standing) (a : Act) → HalfMade s.word w S.base_of S.maker k t a b i → Something (ask_making o t a b i)
  making_some k b i t (New to con fields) h = both_some o t (b + i) _ (S.within_heap (b + i) b (h.words i h.few)) (λ e. absurd (cc))
  making_some k b i t (NewLock to) h = both_some o t (b + i) _ (S.within_heap (b + i) b (h.words i h.few)) (λ e. absurd (cc))
  making_some k b i t a h = absurd (omega (arith, h.few))

  taking_some : (t : Standing) (a : Act) → Taken s.word S.base_of S.maker t a → Something (ask_taking o t a)
  taking_some t (Take to block adopter) h = both_some o t (reg t block + 1) _ (S.within_heap (reg t block + 1) (reg t block) h.1) (λ e. absurd (cc))
  taking_some t a h = absurd h

  spawned_some : (k j i : ℕ) (t : Standing) (a : Act) → Spawned s.word S.spawner k t a j i → Something (ask_spawning o t a j i)
  spawned_some k j i t (Spawn to callee arg) h = counted_some o t _ (spawning_some t callee arg j i)
  spawned_some k j i t a h = absurd h

  -- a running thread
  pub at_running : (k : ℕ) (stage : Stage) → (s.thread k).stage ≡ stage → IsAtInstruction stage → IsSound c s (s.thread k)
  at_running k stage e r = by stage e r
    where
      on : (stage : Stage) → (s.thread k).stage ≡ stage → Started stage → ((u : Thread) → StageStands c.instrs p s.word k (s.thread k) stage u → StandsRunning c.instrs (s.thread k) u) → IsSound c s (s.thread k)
      on stage e st f =
          let n = S.started k (subst (λ (x : Stage). Started x) (sym e) st) in
          let there = S.stands.threads n.0 k n.1 in
          runs_sound p c coded o s w S k n.0 safe n.1 there.here (f there.thread (subst (λ (x : Stage). StageStands c.instrs p s.word k (s.thread k) x there.thread) e there.stands))

      by : (stage : Stage) → (s.thread k).stage ≡ stage → IsAtInstruction stage → IsSound c s (s.thread k)
      by Border e r = on Border e tt (λ u q. q)
      by Ready e r = on Ready e tt (λ u q. q)
      by (Making b i) e r = on (Making b i) e tt (λ u q. q)
      by Taking e r = on Taking e tt (λ u q. q)
      by (Spawning j i) e r = on (Spawning j i) e tt (λ u q. q)
      by stage e r = absurd r

  found_some : (k : ℕ) (stage : Stage) → (s.thread k).stage ≡ stage → (q : IsSound c s (s.thread k)) → Inside s.word w S.base_of S.maker S.spawner k (s.thread k) stage (Some q.instr) → IsAtInstruction stage → Something (ask_found c o (s.thread k) stage (Some q.instr))
  found_some k Border st q h r = looks_some
    where
      looks_some : Something (Looks 3 NotZero)
      looks_some e = absurd (cc)
  found_some k Ready st q h r = act_some (s.thread k) q.instr.act q.sound
  found_some k (Making b i) st q h r = making_some k b i (s.thread k) q.instr.act h
  found_some k Taking st q h r = taking_some (s.thread k) q.instr.act h
  found_some k (Spawning j i) st q h r = spawned_some k j i (s.thread k) q.instr.act h
  found_some k stage st q h r = absurd r

  run_some : (k : ℕ) (stage : Stage) → (s.thread k).stage ≡ stage → IsAtInstruction stage → Something (ask_found c o (s.thread k) stage (slice_get c.instrs (s.thread k).at))
  run_some k stage e r =
      let q = at_running k stage e r in
      subst (λ (x : Option Instr). Something (ask_found c o (s.thread k) stage x)) (sym q.found)
      (found_some k stage e q (subst (λ (x : Option Instr). Inside s.word w S.base_of S.maker S.spawner k (s.thread k) stage x) q.found
      (subst (λ (x : Stage). Inside s.word w S.base_of S.maker S.spawner k (s.thread k) x (slice_get c.instrs (s.thread k).at)) e (S.inside k))) r)

  entering_some : (k f arg : ℕ) → (s.thread k).stage ≡ Entering f arg → Something (ask_frame (callee_of c f (first_params k)))
  entering_some k f arg e =
      let n = S.started k (subst (λ (x : Stage). Started x) (sym e) tt) in
      let there = S.stands.threads n.0 k n.1 in
      let q = subst (λ (x : Stage). StageStands c.instrs p s.word k (s.thread k) x there.thread) e there.stands in
      let b = begins p c coded q.0.callee q.0.start.takes q.0.start.function in
      frame_some (callee_of c f (first_params k)) b.start (ap (λ x. callee_of c x (first_params k)) (q.1 ∙ ap raw_value q.0.start.function.is) ∙ ap (callee_of c q.0.start.function.number) (sym q.0.start.fits) ∙ b.found)

  unmatched_never : (k : ℕ) → (s.thread k).stage ≡ Unmatched → ⊥
  unmatched_never k e = elim (find_in s.born k) [
    | inl q ↦ (let there = S.stands.threads q.0 k q.1 in subst (λ (x : Stage). StageStands c.instrs p s.word k (s.thread k) x there.thread) e there.stands)
    | inr q ↦ subst (λ (x : Stage). Dormant x) e (S.dormant k q)
  ]

  asks_some : (k : ℕ) (stage : Stage) → (s.thread k).stage ≡ stage → ask_at c o k (s.thread k) stage (slice_get c.instrs (s.thread k).at) ≡ Nothing → (e : End) × (stage ≡ Over e)
  asks_some k Idle st e = absurd (cc)
  asks_some k IdleStop st e = absurd (cc)
  asks_some k IdleLive st e = absurd (cc)
  asks_some k LoadFun st e = absurd (cc)
  asks_some k (LoadArg f) st e = absurd (cc)
  asks_some k (Entering f arg) st e = absurd (entering_some k f arg st e)
  asks_some k (Closing x) st e = absurd (closing_some x e)
  asks_some k (Over x) st e = (x, refl)
  asks_some k Unmatched st e = absurd (unmatched_never k st)
  asks_some k Border st e = absurd (run_some k Border st tt e)
  asks_some k Ready st e = absurd (run_some k Ready st tt e)
  asks_some k (Making b i) st e = absurd (run_some k (Making b i) st tt e)
  asks_some k Taking st e = absurd (run_some k Taking st tt e)
  asks_some k (Spawning j i) st e = absurd (run_some k (Spawning j i) st tt e)

  ask_some : (k : ℕ) → ask c o k (s.thread k) ≡ Nothing → (e : End) × ((s.thread k).stage ≡ Over e)
  unfolding ask
  ask_some k e = asks_some k (s.thread k).stage refl e

  behind_header : (b n i : ℕ) → s.blocks b ≡ Some n → i < n → 197 ≤ b + i
  behind_header b n i e l = S.low (b + i) b (S.in_block b n i e l)

  made_behind : (k base i : ℕ) → (s.thread k).stage ≡ Making base i → 197 ≤ base + i
  made_behind k base i e =
      let q = at_running k (Making base i) e tt in
      let h : HalfMade s.word w S.base_of S.maker k (s.thread k) q.instr.act base i =
      subst (λ (x : Option Instr). Inside s.word w S.base_of S.maker S.spawner k (s.thread k) (Making base i) x) q.found
      (subst (λ (x : Stage). Inside s.word w S.base_of S.maker S.spawner k (s.thread k) x (slice_get c.instrs (s.thread k).at)) e (S.inside k)) in
      S.low (base + i) base (h.words i h.few)

  -- no thread's next act is a fault: by what the named command finds, and no place is outside the words
  pub no_fault : NoFault c o s
  no_fault = record { acts = λ k r. at_running k (s.thread k).stage refl r; asks = ask_some; inside = inside_heap; behind = behind_header; making = made_behind }
