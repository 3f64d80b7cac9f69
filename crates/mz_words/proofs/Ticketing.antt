-- No act of a thread without a fault is at the word of tickets but a print: blocks lie behind the header, and of the header each step
-- is at a word of its own.
use Rattle.std.proofs.Common.{◌≡◌, ◌≢◌, ◌<◌, ◌≤◌, ℕ, zero, suc, ◌+◌, List, [], ◌∷◌, ◌++◌, length, Option, Some, None, refl, sym, subst, arith}
use Rattle.std.specs.Prelude.{slice_get}
use Rattle.mz_tape.specs.declared.entry.Entry.{Entry}
use Rattle.mz_words.specs.declared.code.Act.{Act}
use Rattle.mz_words.specs.declared.code.Act.TheVariants.{Const, Copy, Arith as Arith_act, New, Read, Write, Retag, Switch, Branch, Jump, Call, Return, Give, Take, NewLock, Acquire, Release, Spawn, Print}
use Rattle.mz_words.specs.declared.code.Instr.{Instr}
use Rattle.mz_words.specs.declared.code.Start.{Start}
use Rattle.mz_words.specs.declared.code.Code.{Code}
use Rattle.mz_words.specs.declared.options.Options.{Options}
use Rattle.mz_words.specs.declared.ends.End.{End}
use Rattle.mz_words.specs.declared.ends.End.TheVariants as ending
use Rattle.mz_words.specs.declared.asks.Ask.{Ask}
use Rattle.mz_words.specs.declared.asks.Answer.{Answer}
use Rattle.mz_words.specs.declared.asks.Answer.TheVariants.{Saw, Quiet, Missed, Refused}
use Rattle.mz_words.specs.declared.stages.Stage.{Stage}
use Rattle.mz_words.specs.declared.stages.Stage.TheVariants.{Idle, IdleStop, IdleLive, LoadFun, LoadArg, Entering, Border, Ready, Making, Taking, Spawning, Unmatched, Closing, Over}
use Rattle.mz_words.specs.Standing.{Standing}
use Rattle.mz_words.specs.Steps.{reg, callee_of, ask, ask_act, ask_making, ask_taking, spawn_step, ask_spawning, ask_spawn, ask_frame, ask_closing, ask_found, ask_at, first_params}
use Rattle.mz_words.specs.Answers.{Move, move_of}
use Rattle.mz_words.specs.Raw.{Raw, Events, No_events, More_events}
use Rattle.mz_words.specs.Faults.{IsSoundAct, IsAtInstruction, NoFault}
use Rattle.mz_words.specs.Replays.{entries, entry_of}
use Rattle.mz_words.specs.Histories.{history}
use Rattle.mz_words.specs.Tickets.{IsOnItsWord, KeepTickets}
use Rattle.mz_words.proofs.Moving.{none_some, counted_move, both_move, call_move}

some_move : {x m : Move} → Some x ≡ Some m → x ≡ m
some_move e = cc

on : {x m : Move} → Some x ≡ Some m → IsOnItsWord x.kind x.place → IsOnItsWord m.kind m.place
on {x} {m} e h = subst (λ (y : Move). IsOnItsWord y.kind y.place) (some_move e) h

spawn_on : (a : Option Start) (m : Move) → move_of (ask_spawn a) ≡ Some m → IsOnItsWord m.kind m.place
spawn_on None m e = absurd (none_some e)
spawn_on (Some start) m e = on e (λ q. omega (arith, q))

frame_on : (a : Option Start) (m : Move) → move_of (ask_frame a) ≡ Some m → ⊥
frame_on None m e = none_some e
frame_on (Some start) m e = none_some e

closing_on : (x : End) (m : Move) → move_of (ask_closing x) ≡ Some m → IsOnItsWord m.kind m.place
closing_on ending.Done m e = on e (λ q. omega (arith, q))
closing_on x m e = on e (λ q. omega (arith, q))

step_on : (t : Standing) (callee arg j i : ℕ) (m : Move) → move_of (spawn_step t callee arg j i) ≡ Some m → IsOnItsWord m.kind m.place
step_on t callee arg j zero m e = on e (λ q. omega (arith, q))
step_on t callee arg j (suc zero) m e = on e (λ q. omega (arith, q))
step_on t callee arg j (suc (suc zero)) m e = on e (λ q. omega (arith, q))
step_on t callee arg j (suc (suc (suc i))) m e = on e (λ q. omega (arith, q))

module _ (c : Code) (o : Options) (s : Raw) (fine : NoFault c o s) where
  -- a word of a complete block isn't that of tickets
  off : (b n i : ℕ) → s.blocks b ≡ Some n → i < n → b + i ≢ 4
  off b n i e l q = let h = fine.behind b n i e l in omega (arith, h, q)

  first_off : (b n : ℕ) → s.blocks b ≡ Some n → 0 < n → b ≢ 4
  first_off b n e l q = let h = fine.behind b n 0 e l in omega (arith, h, q)

  act_on : (t : Standing) (a : Act) → IsSoundAct c s t a → (m : Move) → move_of (ask_act c o t a) ≡ Some m → IsOnItsWord m.kind m.place
  act_on t (Read to block con field) d m e = on (both_move o t _ _ m e) (λ q. off (reg t block) (d.block.fields + 2) (2 + field) d.block.complete (let h = d.within in omega (arith, h)) (omega (arith, q)))
  act_on t (Write to block con field source) d m e = on (both_move o t _ _ m e) (λ q. off (reg t block) (d.block.fields + 2) (2 + field) d.block.complete (let h = d.within in omega (arith, h)) (omega (arith, q)))
  act_on t (Retag to block old con) d m e = on (both_move o t _ _ m e) (first_off (reg t block) (d.0.fields + 2) d.0.complete (omega arith))
  act_on t (Switch block cons targets) d m e = on (both_move o t _ _ m e) (first_off (reg t block) (d.0.fields + 2) d.0.complete (omega arith))
  act_on t (Give to block adopter) d m e = on (both_move o t _ _ m e) (off (reg t block) (d.0.fields + 2) 1 d.0.complete (omega arith))
  act_on t (Take to block adopter) d m e = on (both_move o t _ _ m e) (off (reg t block) (d.0.fields + 2) 1 d.0.complete (omega arith))
  act_on t (Acquire to lock) d m e = on (both_move o t _ _ m e) (first_off (reg t lock) 1 d (omega arith))
  act_on t (Release to lock) d m e = on (both_move o t _ _ m e) (first_off (reg t lock) 1 d (omega arith))
  act_on t (New to con fields) d m e = on (counted_move o t _ m e) (λ q. omega (arith, q))
  act_on t (NewLock to) d m e = on (counted_move o t _ m e) (λ q. omega (arith, q))
  act_on t (Spawn to callee arg) d m e = spawn_on (callee_of c (reg t callee) 1) m (counted_move o t _ m e)
  act_on t (Print to source) d m e = on (counted_move o t _ m e) refl
  act_on t (Call to callee args) d m e = absurd (call_move t (callee_of c (reg t callee) (length args)) m (counted_move o t _ m e))
  act_on t (Const to value) d m e = absurd (none_some e)
  act_on t (Copy to source) d m e = absurd (none_some e)
  act_on t (Arith_act to op left right) d m e = absurd (none_some e)
  act_on t (Branch test at_zero) d m e = absurd (none_some e)
  act_on t (Jump target) d m e = absurd (none_some e)
  act_on t (Return source) d m e = absurd (none_some e)

  making_on : (t : Standing) (a : Act) (base i : ℕ) → 197 ≤ base + i → (m : Move) → move_of (ask_making o t a base i) ≡ Some m → IsOnItsWord m.kind m.place
  making_on t (New to con fields) base i h m e = on (both_move o t _ _ m e) (λ q. omega (arith, h, q))
  making_on t (NewLock to) base i h m e = on (both_move o t _ _ m e) (λ q. omega (arith, h, q))
  making_on t a base i h m e = absurd (none_some e)

  taking_on : (t : Standing) (a : Act) → IsSoundAct c s t a → (m : Move) → move_of (ask_taking o t a) ≡ Some m → IsOnItsWord m.kind m.place
  taking_on t (Take to block adopter) d m e = on (both_move o t _ _ m e) (off (reg t block) (d.0.fields + 2) 1 d.0.complete (omega arith))
  taking_on t a d m e = absurd (none_some e)

  spawning_on : (t : Standing) (a : Act) (j i : ℕ) (m : Move) → move_of (ask_spawning o t a j i) ≡ Some m → IsOnItsWord m.kind m.place
  spawning_on t (Spawn to callee arg) j i m e = step_on t callee arg j i m (counted_move o t _ m e)
  spawning_on t a j i m e = absurd (none_some e)

  found_on : (k : ℕ) (stage : Stage) → (s.thread k).stage ≡ stage → (i : Instr) → IsSoundAct c s (s.thread k) i.act → (m : Move) → move_of (ask_found c o (s.thread k) stage (Some i)) ≡ Some m → IsOnItsWord m.kind m.place
  found_on k Border q i d m e = on e (λ z. omega (arith, z))
  found_on k Ready q i d m e = act_on (s.thread k) i.act d m e
  found_on k (Making base n) q i d m e = making_on (s.thread k) i.act base n (fine.making k base n q) m e
  found_on k Taking q i d m e = taking_on (s.thread k) i.act d m e
  found_on k (Spawning j n) q i d m e = spawning_on (s.thread k) i.act j n m e
  found_on k stage q i d m e = absurd (none_some e)

  running_on : (k : ℕ) (stage : Stage) → (s.thread k).stage ≡ stage → IsAtInstruction stage → (m : Move) → move_of (ask_found c o (s.thread k) stage (slice_get c.instrs (s.thread k).at)) ≡ Some m → IsOnItsWord m.kind m.place
  running_on k stage q r m e =
      let f = fine.acts k (subst IsAtInstruction (sym q) r) in
      found_on k stage q f.instr f.sound m (subst (λ (x : Option Instr). move_of (ask_found c o (s.thread k) stage x) ≡ Some m) f.found e)

  at_on : (k : ℕ) (stage : Stage) → (s.thread k).stage ≡ stage → (m : Move) → move_of (ask_at c o k (s.thread k) stage (slice_get c.instrs (s.thread k).at)) ≡ Some m → IsOnItsWord m.kind m.place
  at_on k Idle q m e = on e (λ z. omega (arith, z))
  at_on k IdleStop q m e = on e (λ z. omega (arith, z))
  at_on k IdleLive q m e = on e (λ z. omega (arith, z))
  at_on k LoadFun q m e = on e (λ z. omega (arith, z))
  at_on k (LoadArg f) q m e = on e (λ z. omega (arith, z))
  at_on k (Entering f arg) q m e = absurd (frame_on (callee_of c f (first_params k)) m e)
  at_on k (Closing x) q m e = closing_on x m e
  at_on k (Over x) q m e = absurd (none_some e)
  at_on k Unmatched q m e = absurd (none_some e)
  at_on k Border q m e = running_on k Border q tt m e
  at_on k Ready q m e = running_on k Ready q tt m e
  at_on k (Making b i) q m e = running_on k (Making b i) q tt m e
  at_on k Taking q m e = running_on k Taking q tt m e
  at_on k (Spawning j i) q m e = running_on k (Spawning j i) q tt m e

  -- the next step of each thread
  step_of_thread : (k : ℕ) (m : Move) → move_of (ask c o k (s.thread k)) ≡ Some m → IsOnItsWord m.kind m.place
  unfolding ask
  step_of_thread k m e = at_on k (s.thread k).stage refl m e

-- ---- runs

kept_append : (xs ys : List Entry) → KeepTickets xs → KeepTickets ys → KeepTickets (xs ++ ys)
kept_append [] ys a b = b
kept_append (x ∷ xs) ys a b = (a.0, kept_append xs ys a.1 b)

kept_move : (k : ℕ) (x : Option Move) (n : ℕ) → ((m : Move) → x ≡ Some m → IsOnItsWord m.kind m.place) → KeepTickets (entry_of k x n)
kept_move k None n f = tt
kept_move k (Some m) n f = (f m refl, tt)

kept_entries : (k : ℕ) (a : Ask) (answer : Answer) → ((m : Move) → move_of a ≡ Some m → IsOnItsWord m.kind m.place) → KeepTickets (entries k a answer)
kept_entries k a (Saw n) f = kept_move k (move_of a) n f
kept_entries k a Quiet f = tt
kept_entries k a Missed f = tt
kept_entries k a Refused f = tt

-- where no state of a run is at a fault, only its prints are at the word of tickets
pub keeps_tickets : (c : Code) (o : Options) (first last : Raw) → ((s : Raw) → Events c o first s → NoFault c o s) → (events : Events c o first last) → KeepTickets (history events)
keeps_tickets c o first last fine No_events = tt
keeps_tickets c o first last fine (More_events s _ k answer es e) =
    kept_append (history es) (entries k (ask c o k (s.thread k)) answer) (keeps_tickets c o first s fine es) (kept_entries k (ask c o k (s.thread k)) answer (step_of_thread c o s (fine s es) k))
