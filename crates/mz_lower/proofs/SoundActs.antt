-- No thread of a run does a wild step.
use Rattle.std.proofs.Common.{◌≡◌, ℕ, zero, ◌+◌, List, [], ◌∷◌, length, Option, Some, Bool, true, false, sym, ap, ◌∙◌, subst, arith}
use Rattle.std.specs.Prelude.{slice_get}
use Rattle.std.proofs.lemmas.Option.{slice_get_within}
use Rattle.mz_tree.specs.declared.types.Place.{Place}
use Rattle.mz_tree.specs.Code.{Op, Arith_op, Read_op, Write_op, Retag_op, If_op, Match_op, Call_op, Give_op, Take_op, Acquire_op, Release_op, Spawn_op, Command, The_command, Body}
use Rattle.mz_tree.specs.Programs.{Program}
use Rattle.mz_words.specs.declared.code.Act.TheVariants.{Copy, Jump, Call, Return, Spawn}
use Rattle.mz_words.specs.declared.code.Code.{Code}
use Rattle.mz_words.specs.declared.options.Options.{Options}
use Rattle.mz_words.specs.Steps.{reg, case_at, callee_of}
use Rattle.mz_words.specs.Raw.{Raw}
use Rattle.mz_named.specs.Machine.{Value, Block_value, Block_cell, Lock_cell, Environment, Cells, TwoBlocks, Acts, Stops, Chooses, Level, Suspended, Config, IsFunction, IsFine}
use Rattle.mz_lower.specs.Layout.{instr, cons_in, targets_in}
use Rattle.mz_lower.specs.StandsFor.{raw_value, RegistersAgree, ComesTo, Comes_here, Comes_by_jump, WaitingStand, StandsRunning}
use Rattle.mz_words.specs.Faults.{HasBlock, IsSoundAct, IsSound}
use Rattle.mz_lower.proofs.Addresses.{remaining, head_of, branch_end_place, return_place, match_place}
use Rattle.mz_lower.proofs.Simulation.{Simulation}
use Rattle.mz_lower.proofs.CanDo.{ThreadIsFine, CanDo, WaitsHere, Can_act, Can_stop, Can_wait, Can_choose, Can_call, Can_spawn, fine_can}
use Rattle.mz_lower.proofs.Binding.{AtCommand, at_frame, next_of}
use Rattle.mz_lower.proofs.FirstInstructions.{act_of, head_act}
use Rattle.mz_lower.proofs.Calls.{Coded, begins}

module _ (p : Program) (c : Code) (coded : Coded p c) (o : Options) (s : Raw) (w : Config) (S : Simulation p c o s w) (k n : ℕ) where
  module _ (values : Environment) (regs : RegistersAgree values (s.thread k).regs) where
    -- a name that holds a block
    block_at : (x b con : ℕ) (adopter : Option ℕ) (fields : List Value) → values x ≡ Block_value b → w.heap.at b ≡ Some (Block_cell con adopter fields) → s.blocks (reg (s.thread k) x) ≡ Some (length fields + 2)
    block_at x b con adopter fields is here =
        subst (λ z. s.blocks z ≡ Some (length fields + 2)) (sym (regs.agree x ∙ ap raw_value is)) (S.stands.blocks b (Block_cell con adopter fields) here).complete

    tag_at : (x b con : ℕ) (adopter : Option ℕ) (fields : List Value) → values x ≡ Block_value b → w.heap.at b ≡ Some (Block_cell con adopter fields) → s.word (reg (s.thread k) x) ≡ con + 1
    tag_at x b con adopter fields is here =
        let at_b : reg (s.thread k) x ≡ b + zero = omega (arith, regs.agree x, ap raw_value is) in
        ap s.word at_b ∙ (S.stands.blocks b (Block_cell con adopter fields) here).words zero (omega arith)

    lock_at : (x l : ℕ) (held : Bool) → values x ≡ Block_value l → w.heap.at l ≡ Some (Lock_cell held) → s.blocks (reg (s.thread k) x) ≡ Some 1
    lock_at x l held is here = subst (λ z. s.blocks z ≡ Some 1) (sym (regs.agree x ∙ ap raw_value is)) (S.stands.blocks l (Lock_cell held) here).complete

    two_at : (x y : ℕ) → TwoBlocks w.heap.at (values x) (values y) → HasBlock s (reg (s.thread k) x) × HasBlock s (reg (s.thread k) y)
    two_at x y b = (
      record { fields = length b.fields; complete = block_at x b.block b.con b.held_by b.fields b.is_block b.made },
      record { fields = length b.more; complete = block_at y b.adopter b.other b.pool.adopter b.more b.is_adopter b.pool.made },
    )

    module _ (address to : ℕ) where
      by_acts : (op : Op) (v : Value) (at' : Cells) (out : List ℕ) → Acts w.heap.at values op v at' out → IsSoundAct c s (s.thread k) (act_of address to op)
      by_acts (Read_op x con i) v at' out d =
          let r = d.0 in
          record { block = record { fields = length r.fields; complete = block_at x r.name con r.made.adopter r.fields r.is r.made.made }; tag = tag_at x r.name con r.made.adopter r.fields r.is r.made.made; within = slice_get_within r.fields i v r.at_field }
      by_acts (Write_op x con i y) v at' out d =
          let r = d.0 in
          record { block = record { fields = length r.fields; complete = block_at x r.name con r.made.adopter r.fields r.is r.made.made }; tag = tag_at x r.name con r.made.adopter r.fields r.is r.made.made; within = r.within }
      by_acts (Retag_op x old new) v at' out d =
          let r = d.0 in
          (record { fields = length r.fields; complete = block_at x r.name old r.made.adopter r.fields r.is r.made.made }, tag_at x r.name old r.made.adopter r.fields r.is r.made.made)
      by_acts (Give_op x y) v at' out d = two_at x y d.0.both
      by_acts (Take_op x y) v at' out d = two_at x y d.0.both
      by_acts (Acquire_op x) v at' out d = lock_at x d.0.name false d.0.is d.0.stood
      by_acts (Release_op x) v at' out d = lock_at x d.0.name true d.0.is d.0.stood
      by_acts (If_op test one two giving) v at' out d = absurd d
      by_acts (Match_op x data_type cases giving) v at' out d = absurd d
      by_acts (Call_op callee args) v at' out d = absurd d
      by_acts (Spawn_op callee arg) v at' out d = absurd d
      by_acts op v at' out d = tt

      by_stops : (op : Op) → Stops w.heap.at values op → IsSoundAct c s (s.thread k) (act_of address to op)
      by_stops (Arith_op operator x y) d = tt
      by_stops (Take_op x y) d = two_at x y d.both
      by_stops op d = absurd d

      by_waits : (op : Op) → WaitsHere w.heap.at values op → IsSoundAct c s (s.thread k) (act_of address to op)
      by_waits (Acquire_op x) d = lock_at x d.0 true d.1 d.2
      by_waits op d = absurd d

  -- an instruction is sound where its command can act, stop, wait, choose, call or spawn
  pub sound_at : (values : Environment) (to : ℕ) (op : Op) (place : Place) (rest : List Command) (value : ℕ) (outer : List Level) (below : List Suspended) → AtCommand c s w k n values to op place rest value outer below → ThreadIsFine p w n
      → IsSoundAct c s (s.thread k) (act_of (s.thread k).at to op)
  sound_at values to op place rest value outer below at fine = by_can op at (fine_can p w n (next_of c s w k n values to op place rest value outer below at) fine)
    where
      by_chooses : (op : Op) (body : Body) → AtCommand c s w k n values to op place rest value outer below → Chooses w.heap.at values op body → IsSoundAct c s (s.thread k) (act_of (s.thread k).at to op)
      by_chooses (If_op test one two giving) body at d = tt
      by_chooses (Match_op x data_type cases giving) body at d =
          let there = (match_place c.instrs (length (s.thread k).regs) (s.thread k).at to x data_type cases giving place rest value outer d.con body at.stands d.chosen).1 in (
            record { fields = length d.fields; complete = block_at values at.regs x d.name d.con d.made.adopter d.fields d.is d.made.made },
            there.target,
            ap (case_at (cons_in cases) (targets_in ((s.thread k).at + 1) cases)) (tag_at values at.regs x d.name d.con d.made.adopter d.fields d.is d.made.made) ∙ there.found,
          )
      by_chooses op body at d = absurd d

      calls : (callee : ℕ) (args : List ℕ) → IsFunction p (values callee) (length args) → IsSoundAct c s (s.thread k) (Call to callee args)
      calls callee args f = let b = begins p c coded (values callee) (length args) f in (b.start, ap (λ x. callee_of c x (length args)) (at.regs.agree callee ∙ ap raw_value f.is) ∙ b.found)

      spawns : (callee arg : ℕ) → IsFunction p (values callee) 1 → IsSoundAct c s (s.thread k) (Spawn to callee arg)
      spawns callee arg f = let b = begins p c coded (values callee) 1 f in (b.start, ap (λ x. callee_of c x 1) (at.regs.agree callee ∙ ap raw_value f.is) ∙ b.found)

      by_can : (op : Op) → AtCommand c s w k n values to op place rest value outer below → CanDo p values op w.heap.at → IsSoundAct c s (s.thread k) (act_of (s.thread k).at to op)
      by_can op at (Can_act v at' out d) = by_acts values at.regs (s.thread k).at to op v at' out d
      by_can op at (Can_stop d) = by_stops values at.regs (s.thread k).at to op d
      by_can op at (Can_wait d) = by_waits values at.regs (s.thread k).at to op d
      by_can op at (Can_choose body d) = by_chooses op body at d
      by_can op at (Can_call callee args e f) = subst (λ (x : Op). IsSoundAct c s (s.thread k) (act_of (s.thread k).at to x)) (sym e) (calls callee args f)
      by_can op at (Can_spawn callee arg e f) = subst (λ (x : Op). IsSoundAct c s (s.thread k) (act_of (s.thread k).at to x)) (sym e) (spawns callee arg f)

  by_frame : (values : Environment) (commands : List Command) (value : ℕ) (outer : List Level) (below : List Suspended) → slice_get s.born n ≡ Some k → slice_get w.threads n ≡ Some (at_frame values (remaining commands value) outer below) → RegistersAgree values (s.thread k).regs
      → ComesTo c.instrs (length (s.thread k).regs) (s.thread k).at (remaining commands value) outer → WaitingStand c.instrs (s.thread k).below below → ThreadIsFine p w n → IsSound c s (s.thread k)
  by_frame values (The_command to op place ∷ rest) value outer below is here regs (Comes_here stands) under fine = record {
    instr = instr place (act_of (s.thread k).at to op);
    found = head_act c.instrs (s.thread k).at to place op (head_of c.instrs (length (s.thread k).regs) (s.thread k).at (The_command to op place) rest value outer stands).0;
    sound = sound_at values to op place rest value outer below (record { is = is; here = here; regs = regs; stands = stands; under = under }) fine;
  }
  by_frame values [] value (level ∷ outer) below is here regs (Comes_here stands) under fine =
      let b = branch_end_place c.instrs (length (s.thread k).regs) (s.thread k).at value level outer stands in record { instr = instr b.place (Copy level.to value); found = b.copy; sound = tt }
  by_frame values [] value [] below is here regs (Comes_here stands) under fine =
      let r = return_place c.instrs (length (s.thread k).regs) (s.thread k).at value stands in record { instr = instr r.0 (Return value); found = r.1; sound = tt }
  by_frame values commands value outer below is here regs (Comes_by_jump end place e stands) under fine = record { instr = instr place (Jump end); found = e; sound = tt }

  -- and so is any at which a running thread stands
  pub runs_sound : {u : _} → IsFine p w → slice_get s.born n ≡ Some k → slice_get w.threads n ≡ Some u → StandsRunning c.instrs (s.thread k) u → IsSound c s (s.thread k)
  runs_sound safe is here r =
      by_frame r.top.env r.top.rest.commands r.top.rest.value r.top.outer r.below is (here ∙ ap Some r.is) r.frames.regs r.frames.place r.frames.under (safe.goes_on n r.top r.below (here ∙ ap Some r.is))
