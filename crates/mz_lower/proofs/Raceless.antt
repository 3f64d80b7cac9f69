-- Two threads' next word steps, of which one is a store, meet at no tag and at no field.
use Rattle.std.proofs.Common.{◌≡◌, ◌≢◌, ◌<◌, inl, inr, ℕ, zero, suc, ◌+◌, ◌*◌, List, [], ◌∷◌, length, Option, Some, None, refl, sym, ap, ◌∙◌, subst, arith}
use Rattle.std.specs.Prelude.{slice_get}
use Rattle.mz_tree.specs.declared.types.Place.{Place}
use Rattle.mz_tree.specs.Code.{Op, Arith_op, New_op, Read_op, Write_op, Retag_op, If_op, Match_op, Call_op, Give_op, Take_op, New_lock_op, Acquire_op, Release_op, Spawn_op, Print_op, Command, The_command, Body, op_of}
use Rattle.mz_tree.specs.Programs.{Program}
use Rattle.mz_words.specs.declared.code.Act.{Act}
use Rattle.mz_words.specs.declared.code.Act.TheVariants.{New, NewLock, Take, Spawn}
use Rattle.mz_words.specs.declared.code.Instr.{Instr}
use Rattle.mz_words.specs.declared.code.Start.{Start}
use Rattle.mz_words.specs.declared.code.Code.{Code}
use Rattle.mz_words.specs.declared.options.Options.{Options}
use Rattle.mz_words.specs.declared.ends.End.{End}
use Rattle.mz_words.specs.declared.ends.End.TheVariants as ending
use Rattle.mz_tape.specs.declared.entry.Kind.TheVariants.{Store, Load}
use Rattle.mz_words.specs.declared.stages.Stage.{Stage}
use Rattle.mz_words.specs.declared.stages.Stage.TheVariants.{Idle, IdleStop, IdleLive, LoadFun, LoadArg, Entering, Border, Ready, Making, Taking, Spawning, Unmatched, Closing, Over}
use Rattle.mz_words.specs.Standing.{Standing}
use Rattle.mz_words.specs.Steps.{made_words, reg, ask_act, ask_making, ask_taking, ask_spawning, spawn_step, ask_spawn, ask_frame, ask_closing, ask_found, ask_at, ask, callee_of, first_params}
use Rattle.mz_words.specs.Answers.{Move, move_of}
use Rattle.mz_words.specs.Raw.{Raw}
use Rattle.mz_named.specs.Machine.{Value, Block_value, Environment, Cells, Frame, Acts, Stops, Chooses, Touches, WritesTo, Level, Suspended, Config, Thread, IsAt, IsFine}
use Rattle.mz_lower.specs.StandsFor.{raw_value, RegistersAgree, ComesTo, Comes_here, Comes_by_jump, WaitingStand, StandsRunning, StageStands}
use Rattle.mz_words.specs.Faults.{HasBlock, IsSoundAct, IsSound, IsAtInstruction, MayMeet, NoRace}
use Rattle.mz_words.proofs.Moving.{counted_move, both_move, call_move}
use Rattle.mz_lower.proofs.Addresses.{remaining, some_inj, none_some, head_of, branch_end_place, return_place}
use Rattle.mz_lower.proofs.Simulation.{Simulation, HalfMade, Spawned, Inside, Started}
use Rattle.mz_lower.proofs.CanDo.{ThreadIsFine, CanDo, WaitsHere, Can_act, Can_stop, Can_wait, Can_choose, Can_call, Can_spawn, fine_can}
use Rattle.mz_lower.proofs.Binding.{AtCommand, frame_at, at_frame, at_op, next_of}
use Rattle.mz_lower.proofs.FirstInstructions.{act_of, head_act}
use Rattle.mz_lower.proofs.Calls.{Coded}
use Rattle.mz_lower.proofs.SoundActs.{sound_at}
use Rattle.mz_lower.proofs.Faultless.{at_running}

-- ---- the name that an operation reads or writes holds a block

abbrev NamesBlock : Environment → Op → Type 0
NamesBlock values (Read_op x con i) = (b : ℕ) × (values x ≡ Block_value b)
NamesBlock values (Write_op x con i y) = (b : ℕ) × (values x ≡ Block_value b)
NamesBlock values (Retag_op x old new) = (b : ℕ) × (values x ≡ Block_value b)
NamesBlock values (Match_op x d cases giving) = (b : ℕ) × (values x ≡ Block_value b)
NamesBlock values _ = Unit {0}

names_acts : (at : Cells) (values : Environment) (op : Op) (v : Value) (at' : Cells) (out : List ℕ) → Acts at values op v at' out → NamesBlock values op
names_acts at values (Read_op x con i) v at' out d = (d.0.name, d.0.is)
names_acts at values (Write_op x con i y) v at' out d = (d.0.name, d.0.is)
names_acts at values (Retag_op x old new) v at' out d = (d.0.name, d.0.is)
names_acts at values (Match_op x t cases giving) v at' out d = absurd d
names_acts at values op v at' out d = tt

names_stops : (at : Cells) (values : Environment) (op : Op) → Stops at values op → NamesBlock values op
names_stops at values (Arith_op operator x y) d = tt
names_stops at values (Take_op x y) d = tt
names_stops at values op d = absurd d

names_waits : (at : Cells) (values : Environment) (op : Op) → WaitsHere at values op → NamesBlock values op
names_waits at values (Acquire_op x) d = tt
names_waits at values op d = absurd d

names_chooses : (at : Cells) (values : Environment) (op : Op) (body : Body) → Chooses at values op body → NamesBlock values op
names_chooses at values (If_op test one two giving) body d = tt
names_chooses at values (Match_op x t cases giving) body d = (d.name, d.is)
names_chooses at values op body d = absurd d

names_block : (p : Program) (at : Cells) (values : Environment) (op : Op) → CanDo p values op at → NamesBlock values op
names_block p at values op (Can_act v at' out d) = names_acts at values op v at' out d
names_block p at values op (Can_stop d) = names_stops at values op d
names_block p at values op (Can_wait d) = names_waits at values op d
names_block p at values op (Can_choose body d) = names_chooses at values op body d
names_block p at values op (Can_call callee args e f) = subst (λ (x : Op). NamesBlock values x) (sym e) tt
names_block p at values op (Can_spawn callee arg e f) = subst (λ (x : Op). NamesBlock values x) (sym e) tt

-- ---- moves of what is asked

frame_move : (a : Option Start) (m : Move) → move_of (ask_frame a) ≡ Some m → ⊥
frame_move None m e = none_some refl e
frame_move (Some start) m e = none_some refl e

place_of : {m n : Move} → Some m ≡ Some n → m.place ≡ n.place
place_of e = ap (λ (x : Move). x.place) (some_inj e)

kind_of : {m n : Move} → Some m ≡ Some n → m.kind ≡ n.kind
kind_of e = ap (λ (x : Move). x.kind) (some_inj e)

low_place : (a : ℕ) (m n : Move) → Some m ≡ Some n → m.place ≡ a → a < 197 → n.place < 197
low_place a m n e q l = omega (arith, place_of e, q, l)

spawn_move : (a : Option Start) (m : Move) → move_of (ask_spawn a) ≡ Some m → m.place < 197
spawn_move None m e = absurd (none_some refl e)
spawn_move (Some start) m e = low_place 1 _ m e refl (omega arith)

closing_move : (x : End) (m : Move) → move_of (ask_closing x) ≡ Some m → m.place < 197
closing_move ending.Done m e = low_place 2 _ m e refl (omega arith)
closing_move x m e = low_place 3 _ m e refl (omega arith)

module _ (p : Program) (c : Code) (coded : Coded p c) (o : Options) (s : Raw) (w : Config) (S : Simulation p c o s w) (safe : IsFine p w) where
  -- the named command of thread k touches the block to which the word belongs
  record AtWord (k : ℕ) (m : Move) : Type 0 where
    pub n : ℕ
    pub is : slice_get s.born n ≡ Some k
    pub frame : Frame
    pub below : List Suspended
    pub command : Command
    pub rest : List Command
    pub stands : IsAt w n frame below command rest
    pub block : ℕ
    pub touches : Touches frame.env (op_of command) block
    pub writes : m.kind ≡ Store → WritesTo frame.env (op_of command) block
    pub belongs : S.base_of m.place ≡ Some block
    pub whole : S.maker block ≡ None

  -- where the next word step of thread k is
  data Reaches (k : ℕ) (m : Move) : Type 0 where
    At_shared : MayMeet s m.place → Reaches k m
    At_made : (b : ℕ) → S.base_of m.place ≡ Some b → S.maker b ≡ Some k → Reaches k m
    At_word : AtWord k m → Reaches k m

  whole_block : (b : ℕ) → HasBlock s b → S.maker b ≡ None
  whole_block b q = let cell = S.stands.complete b (q.fields + 2) q.complete in S.made b cell.0 cell.1

  no_store : Load ≡ Store → ⊥
  no_store e = absurd (cc)

  module _ (k n : ℕ) (values : Environment) (to : ℕ) (place : Place) (rest : List Command) (value : ℕ) (outer : List Level) (below : List Suspended) where
    -- at the word of a block that a command reads or writes
    in_block : (op : Op) (at : AtCommand c s w k n values to op place rest value outer below) (x i : ℕ) (m : Move) (q : HasBlock s (reg (s.thread k) x)) → i < q.fields + 2 → m.place ≡ reg (s.thread k) x + i
        → ((b : ℕ) → values x ≡ Block_value b → Touches values op b × (m.kind ≡ Store → WritesTo values op b)) → (b : ℕ) × (values x ≡ Block_value b) → Reaches k m
    in_block op at x i m q l e touch named =
        let same : named.0 ≡ reg (s.thread k) x = sym (at.regs.agree x ∙ ap raw_value named.1) in
        let t = touch (reg (s.thread k) x) (named.1 ∙ ap Block_value same) in
        At_word (record {
          n = n;
          is = at.is;
          frame = frame_at values (at_op to op place rest value) outer;
          below = below;
          command = The_command to op place;
          rest = rest;
          stands = next_of c s w k n values to op place rest value outer below at;
          block = reg (s.thread k) x;
          touches = t.0;
          writes = t.1;
          belongs = subst (λ a. S.base_of a ≡ Some (reg (s.thread k) x)) (sym e) (S.in_block (reg (s.thread k) x) (q.fields + 2) i q.complete l);
          whole = whole_block (reg (s.thread k) x) q;
        })

    at_adopter : (x : ℕ) (m : Move) → HasBlock s (reg (s.thread k) x) → m.place ≡ reg (s.thread k) x + 1 → Reaches k m
    at_adopter x m q e = At_shared (inr (inl (reg (s.thread k) x, q, e)))

    at_lock : (x : ℕ) (m : Move) → s.blocks (reg (s.thread k) x) ≡ Some 1 → m.place ≡ reg (s.thread k) x → Reaches k m
    at_lock x m q e = At_shared (inr (inr (subst (λ a. s.blocks a ≡ Some 1) (sym e) q)))

    by_op : (op : Op) → AtCommand c s w k n values to op place rest value outer below → IsSoundAct c s (s.thread k) (act_of (s.thread k).at to op) → NamesBlock values op → (m : Move) → move_of (ask_act c o (s.thread k) (act_of (s.thread k).at to op)) ≡ Some m → Reaches k m
    by_op (Read_op x con i) at d named m e =
        let q = both_move o (s.thread k) _ _ m e in
        in_block (Read_op x con i) at x (2 + i) m d.block (omega (arith, d.within)) (omega (arith, place_of q)) (λ b h. (h, λ z. absurd (no_store (kind_of q ∙ z)))) named
    by_op (Write_op x con i y) at d named m e =
        let q = both_move o (s.thread k) _ _ m e in
        in_block (Write_op x con i y) at x (2 + i) m d.block (omega (arith, d.within)) (omega (arith, place_of q)) (λ b h. (h, λ z. h)) named
    by_op (Retag_op x old new) at d named m e =
        let q = both_move o (s.thread k) _ _ m e in
        in_block (Retag_op x old new) at x 0 m d.0 (omega arith) (omega (arith, place_of q)) (λ b h. (h, λ z. h)) named
    by_op (Match_op x t cases giving) at d named m e =
        let q = both_move o (s.thread k) _ _ m e in
        in_block (Match_op x t cases giving) at x 0 m d.0 (omega arith) (omega (arith, place_of q)) (λ b h. (h, λ z. absurd (no_store (kind_of q ∙ z)))) named
    by_op (Give_op x y) at d named m e = at_adopter x m d.0 (sym (place_of (both_move o (s.thread k) _ _ m e)))
    by_op (Take_op x y) at d named m e = at_adopter x m d.0 (sym (place_of (both_move o (s.thread k) _ _ m e)))
    by_op (Acquire_op x) at d named m e = at_lock x m d (sym (place_of (both_move o (s.thread k) _ _ m e)))
    by_op (Release_op x) at d named m e = at_lock x m d (sym (place_of (both_move o (s.thread k) _ _ m e)))
    by_op (New_op con ys) at d named m e = At_shared (inl (low_place 0 _ m (counted_move o (s.thread k) _ m e) refl (omega arith)))
    by_op (New_lock_op guarded) at d named m e = At_shared (inl (low_place 0 _ m (counted_move o (s.thread k) _ m e) refl (omega arith)))
    by_op (Spawn_op callee arg) at d named m e = At_shared (inl (spawn_move (callee_of c (reg (s.thread k) callee) 1) m (counted_move o (s.thread k) _ m e)))
    by_op (Print_op x) at d named m e = At_shared (inl (low_place 4 _ m (counted_move o (s.thread k) _ m e) refl (omega arith)))
    by_op (Call_op callee args) at d named m e = absurd (call_move (s.thread k) (callee_of c (reg (s.thread k) callee) (length args)) m (counted_move o (s.thread k) _ m e))
    by_op op at d named m e = absurd (none_some refl e)

  by_frame : (k n : ℕ) (values : Environment) (commands : List Command) (value : ℕ) (outer : List Level) (below : List Suspended) → slice_get s.born n ≡ Some k → slice_get w.threads n ≡ Some (at_frame values (remaining commands value) outer below) → RegistersAgree values (s.thread k).regs
      → ComesTo c.instrs (length (s.thread k).regs) (s.thread k).at (remaining commands value) outer → WaitingStand c.instrs (s.thread k).below below → ThreadIsFine p w n
      → (m : Move) (i : Instr) → slice_get c.instrs (s.thread k).at ≡ Some i → move_of (ask_act c o (s.thread k) i.act) ≡ Some m → Reaches k m
  by_frame k n values (The_command to op place ∷ rest) value outer below is here regs (Comes_here stands) under fine m i found e =
      let at : AtCommand c s w k n values to op place rest value outer below = record { is = is; here = here; regs = regs; stands = stands; under = under } in
      let same = some_inj (sym found ∙ head_act c.instrs (s.thread k).at to place op (head_of c.instrs (length (s.thread k).regs) (s.thread k).at (The_command to op place) rest value outer stands).0) in
      by_op k n values to place rest value outer below op at (sound_at p c coded o s w S k n values to op place rest value outer below at fine)
      (names_block p w.heap.at values op (fine_can p w n (next_of c s w k n values to op place rest value outer below at) fine)) m
      (subst (λ (x : Instr). move_of (ask_act c o (s.thread k) x.act) ≡ Some m) same e)
  by_frame k n values [] value (level ∷ outer) below is here regs (Comes_here stands) under fine m i found e =
      let b = branch_end_place c.instrs (length (s.thread k).regs) (s.thread k).at value level outer stands in
      absurd (none_some refl (subst (λ (x : Instr). move_of (ask_act c o (s.thread k) x.act) ≡ Some m) (some_inj (sym found ∙ b.copy)) e))
  by_frame k n values [] value [] below is here regs (Comes_here stands) under fine m i found e =
      let r = return_place c.instrs (length (s.thread k).regs) (s.thread k).at value stands in
      absurd (none_some refl (subst (λ (x : Instr). move_of (ask_act c o (s.thread k) x.act) ≡ Some m) (some_inj (sym found ∙ r.1)) e))
  by_frame k n values commands value outer below is here regs (Comes_by_jump end place q stands) under fine m i found e =
      absurd (none_some refl (subst (λ (x : Instr). move_of (ask_act c o (s.thread k) x.act) ≡ Some m) (some_inj (sym found ∙ q)) e))

  making_move : (k b i : ℕ) (t : Standing) (a : Act) (m : Move) → HalfMade s.word w S.base_of S.maker k t a b i → move_of (ask_making o t a b i) ≡ Some m → Reaches k m
  making_move k b i t (New to con fields) m h e = At_made b (subst (λ x. S.base_of x ≡ Some b) (place_of (both_move o t _ _ m e)) (h.words i h.few)) h.mine
  making_move k b i t (NewLock to) m h e = At_made b (subst (λ x. S.base_of x ≡ Some b) (place_of (both_move o t _ _ m e)) (h.words i h.few)) h.mine
  making_move k b i t a m h e = absurd (none_some refl e)

  taking_move : (k : ℕ) (a : Act) (m : Move) → IsSoundAct c s (s.thread k) a → move_of (ask_taking o (s.thread k) a) ≡ Some m → Reaches k m
  taking_move k (Take to block adopter) m d e = At_shared (inr (inl (reg (s.thread k) block, d.0, sym (place_of (both_move o (s.thread k) _ _ m e)))))
  taking_move k a m d e = absurd (none_some refl e)

  step_move : (t : Standing) (callee arg j i : ℕ) (m : Move) → j < 64 → move_of (spawn_step t callee arg j i) ≡ Some m → m.place < 197
  step_move t callee arg j zero m l e = low_place 2 _ m e refl (omega arith)
  step_move t callee arg j (suc zero) m l e = low_place (6 + 3 * j) _ m e refl (omega (arith, l))
  step_move t callee arg j (suc (suc zero)) m l e = low_place (7 + 3 * j) _ m e refl (omega (arith, l))
  step_move t callee arg j (suc (suc (suc i))) m l e = low_place (5 + 3 * j) _ m e refl (omega (arith, l))

  spawning_move : (k j i : ℕ) (t : Standing) (a : Act) (m : Move) → Spawned s.word S.spawner k t a j i → move_of (ask_spawning o t a j i) ≡ Some m → m.place < 197
  spawning_move k j i t (Spawn to callee arg) m h e = step_move t callee arg j i m h.high (counted_move o t _ m e)
  spawning_move k j i t a m h e = absurd h

  -- by the stage of thread k, which stands at an instruction
  running_move : (k : ℕ) (stage : Stage) → (s.thread k).stage ≡ stage → IsAtInstruction stage → (q : IsSound c s (s.thread k)) → Inside s.word w S.base_of S.maker S.spawner k (s.thread k) stage (Some q.instr)
      → (m : Move) → move_of (ask_found c o (s.thread k) stage (Some q.instr)) ≡ Some m → Reaches k m
  running_move k Border st r q h m e = At_shared (inl (low_place 3 _ m e refl (omega arith)))
  running_move k Ready st r q h m e =
      let n = S.started k (subst (λ (x : Stage). Started x) (sym st) tt) in
      let there = S.stands.threads n.0 k n.1 in
      by_running n.0 there.thread n.1 there.here (subst (λ (x : Stage). StageStands c.instrs p s.word k (s.thread k) x there.thread) st there.stands)
    where
      by_running : (n : ℕ) (u : Thread) → slice_get s.born n ≡ Some k → slice_get w.threads n ≡ Some u → StandsRunning c.instrs (s.thread k) u → Reaches k m
      by_running n u is here r = by_frame k n r.top.env r.top.rest.commands r.top.rest.value r.top.outer r.below is (here ∙ ap Some r.is) r.frames.regs r.frames.place r.frames.under (safe.goes_on n r.top r.below (here ∙ ap Some r.is)) m q.instr q.found e
  running_move k (Making b i) st r q h m e = making_move k b i (s.thread k) q.instr.act m h e
  running_move k Taking st r q h m e = taking_move k q.instr.act m q.sound e
  running_move k (Spawning j i) st r q h m e = At_shared (inl (spawning_move k j i (s.thread k) q.instr.act m h e))
  running_move k stage st r q h m e = absurd r

  found_move : (k : ℕ) (stage : Stage) → (s.thread k).stage ≡ stage → IsAtInstruction stage → (m : Move) → move_of (ask_found c o (s.thread k) stage (slice_get c.instrs (s.thread k).at)) ≡ Some m → Reaches k m
  found_move k stage st r m e =
      let q = at_running p c coded o s w S safe k stage st r in
      running_move k stage st r q (subst (λ (x : Option Instr). Inside s.word w S.base_of S.maker S.spawner k (s.thread k) stage x) q.found
      (subst (λ (x : Stage). Inside s.word w S.base_of S.maker S.spawner k (s.thread k) x (slice_get c.instrs (s.thread k).at)) st (S.inside k))) m
      (subst (λ (x : Option Instr). move_of (ask_found c o (s.thread k) stage x) ≡ Some m) q.found e)

  by_stage : (k : ℕ) (stage : Stage) → k < 64 → (s.thread k).stage ≡ stage → (m : Move) → move_of (ask_at c o k (s.thread k) stage (slice_get c.instrs (s.thread k).at)) ≡ Some m → Reaches k m
  by_stage k Idle l st m e = At_shared (inl (low_place (5 + 3 * k) _ m e refl (omega (arith, l))))
  by_stage k IdleStop l st m e = At_shared (inl (low_place 3 _ m e refl (omega arith)))
  by_stage k IdleLive l st m e = At_shared (inl (low_place 2 _ m e refl (omega arith)))
  by_stage k LoadFun l st m e = At_shared (inl (low_place (6 + 3 * k) _ m e refl (omega (arith, l))))
  by_stage k (LoadArg f) l st m e = At_shared (inl (low_place (7 + 3 * k) _ m e refl (omega (arith, l))))
  by_stage k (Entering f arg) l st m e = absurd (frame_move (callee_of c f (first_params k)) m e)
  by_stage k (Closing x) l st m e = At_shared (inl (closing_move x m e))
  by_stage k (Over x) l st m e = absurd (none_some refl e)
  by_stage k Unmatched l st m e = absurd (none_some refl e)
  by_stage k Border l st m e = found_move k Border st tt m e
  by_stage k Ready l st m e = found_move k Ready st tt m e
  by_stage k (Making b i) l st m e = found_move k (Making b i) st tt m e
  by_stage k Taking l st m e = found_move k Taking st tt m e
  by_stage k (Spawning j i) l st m e = found_move k (Spawning j i) st tt m e

  reaches : (k : ℕ) → k < 64 → (m : Move) → move_of (ask c o k (s.thread k)) ≡ Some m → Reaches k m
  unfolding ask
  reaches k l m e = by_stage k (s.thread k).stage l refl m e

  -- ---- two threads at one word

  one_block : (a b x y : ℕ) → a ≡ b → S.base_of a ≡ Some x → S.base_of b ≡ Some y → x ≡ y
  one_block a b x y e q r = some_inj (sym q ∙ ap S.base_of e ∙ r)

  meet_at : (j k : ℕ) → j ≢ k → (m n : Move) → m.place ≡ n.place → m.kind ≡ Store → Reaches j m → Reaches k n → MayMeet s m.place
  meet_at j k d m n e store (At_shared q) r = q
  meet_at j k d m n e store q (At_shared r) = subst (λ a. MayMeet s a) (sym e) r
  meet_at j k d m n e store (At_made b belongs mine) (At_made x other its) = absurd (d (some_inj (sym mine ∙ ap S.maker (one_block m.place n.place b x e belongs other) ∙ its)))
  meet_at j k d m n e store (At_made b belongs mine) (At_word r) = absurd (none_some r.whole (ap S.maker (sym (one_block m.place n.place b r.block e belongs r.belongs)) ∙ mine))
  meet_at j k d m n e store (At_word q) (At_made x other its) = absurd (none_some q.whole (ap S.maker (one_block m.place n.place q.block x e q.belongs other) ∙ its))
  meet_at j k d m n e store (At_word q) (At_word r) = absurd (safe.no_race (record {
    one = q.n;
    two = r.n;
    differ = λ z. d (some_inj (sym q.is ∙ ap (slice_get s.born) z ∙ r.is));
    frame = q.frame;
    below = q.below;
    command = q.command;
    rest = q.rest;
    stands = q.stands;
    frame2 = r.frame;
    below2 = r.below;
    command2 = r.command;
    rest2 = r.rest;
    stands2 = r.stands;
    block = q.block;
    writes = q.writes store;
    touches = subst (λ a. Touches r.frame.env (op_of r.command) a) (sym (one_block m.place n.place q.block r.block e q.belongs r.belongs)) r.touches;
  }))

  apart : (b i : ℕ) (q : HasBlock s b) → i < q.fields + 2 → i ≢ 1 → MayMeet s (b + i) → ⊥
  apart b i q l d (inl low) = omega (arith, low, S.low (b + i) b (S.in_block b (q.fields + 2) i q.complete l))
  apart b i q l d (inr (inl z)) =
      let same : b ≡ z.0 = one_block (b + i) (z.0 + 1) b z.0 z.2 (S.in_block b (q.fields + 2) i q.complete l) (S.in_block z.0 (z.1.fields + 2) 1 z.1.complete (omega arith)) in
      d (omega (arith, z.2, same))
  apart b i q l d (inr (inr z)) =
      let lock : S.base_of (b + i + 0) ≡ Some (b + i) = S.in_block (b + i) 1 0 z (omega arith) in
      let same : b ≡ b + i = one_block (b + i) (b + i + 0) b (b + i) (omega arith) (S.in_block b (q.fields + 2) i q.complete l) lock in
      let both : q.fields + 2 ≡ 1 = some_inj (sym q.complete ∙ ap s.blocks same ∙ z) in
      omega (arith, both)

  half_made : (k base i j : ℕ) (instr : Instr) → (s.thread k).stage ≡ Making base i → slice_get c.instrs (s.thread k).at ≡ Some instr → j < made_words instr.act → MayMeet s (base + j) → ⊥
  half_made k base i j instr e found l meets =
      let q = at_running p c coded o s w S safe k (Making base i) e tt in
      let h : HalfMade s.word w S.base_of S.maker k (s.thread k) q.instr.act base i =
      subst (λ (x : Option Instr). Inside s.word w S.base_of S.maker S.spawner k (s.thread k) (Making base i) x) q.found
      (subst (λ (x : Stage). Inside s.word w S.base_of S.maker S.spawner k (s.thread k) x (slice_get c.instrs (s.thread k).at)) e (S.inside k)) in
      let belongs = h.words j (subst (λ (x : Instr). j < made_words x.act) (some_inj (sym found ∙ q.found)) l) in
      by belongs h.mine meets
    where
      by : S.base_of (base + j) ≡ Some base → S.maker base ≡ Some k → MayMeet s (base + j) → ⊥
      by belongs mine (inl low) = omega (arith, low, S.low (base + j) base belongs)
      by belongs mine (inr (inl z)) =
          let same : base ≡ z.0 = one_block (base + j) (z.0 + 1) base z.0 z.2 belongs (S.in_block z.0 (z.1.fields + 2) 1 z.1.complete (omega arith)) in
          none_some (whole_block z.0 z.1) (ap S.maker (sym same) ∙ mine)
      by belongs mine (inr (inr z)) =
          let lock : S.base_of (base + j + 0) ≡ Some (base + j) = S.in_block (base + j) 1 0 z (omega arith) in
          let same : base ≡ base + j = one_block (base + j) (base + j + 0) base (base + j) (omega arith) belongs lock in
          let cell = S.stands.complete (base + j) 1 z in
          none_some (S.made (base + j) cell.0 cell.1) (ap S.maker (sym same) ∙ mine)

  -- two moves that meet at a tag or a field would be a race by name, or of two blocks that are being made
  pub no_race : NoRace c o s
  no_race = record {
    meet = λ j k l h d m n e f same store. meet_at j k d m n same store (reaches j l m e) (reaches k h n f);
    apart = apart;
    half_made = half_made;
  }
