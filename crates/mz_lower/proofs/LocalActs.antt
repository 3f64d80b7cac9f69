-- Events that change no known word: local instructions, ends of branches, jumps, looks and cuts.
use Rattle.std.proofs.Common.{◌≡◌, ◌≢◌, ◌<◌, ◌≤◌, ◌==◌, inl, ℕ, zero, suc, ◌+◌, List, [], ◌∷◌, length, Option, Some, None, Bool, true, false, refl, sym, ap, ◌∙◌, subst, arith, ne_eqb}
use Rattle.std.specs.Prelude.{slice_get, slice_set, if◌then◌else◌}
use Rattle.mz_tree.specs.Plain.{Atom}
use Rattle.mz_tree.specs.declared.types.Place.{Place}
use Rattle.mz_tree.specs.declared.code.Arith.{Arith}
use Rattle.mz_tree.specs.Code.{Op, Copy_op, Arith_op, If_op, Command, The_command, Body}
use Rattle.mz_tree.specs.Programs.{Program}
use Rattle.mz_words.specs.declared.code.Act.TheVariants.{Const, Copy, Arith as Arith_act, Branch, Jump, Return}
use Rattle.mz_words.specs.declared.code.Instr.{Instr}
use Rattle.mz_words.specs.declared.code.Code.{Code}
use Rattle.mz_words.specs.declared.options.Options.{Options}
use Rattle.mz_words.specs.declared.ends.End.{End}
use Rattle.mz_words.specs.declared.ends.End.TheVariants as ending
use Rattle.mz_words.specs.declared.asks.Answer.TheVariants.{Saw, Quiet}
use Rattle.mz_words.specs.declared.stages.Stage.TheVariants.{Border, Ready, Over}
use Rattle.mz_words.specs.declared.stages.Waiting.{Waiting}
use Rattle.mz_words.specs.Standing.{Standing}
use Rattle.mz_tree.specs.Arithmetic.{computed}
use Rattle.mz_words.specs.Steps.{reg, gives_or, gives, goes_to, stop, returns}
use Rattle.mz_words.specs.declared.asks.Ask.{Ask}
use Rattle.mz_words.specs.declared.asks.Ask.TheVariants.{Prints}
use Rattle.mz_words.specs.Raw.{Raw, printed}
use Rattle.mz_named.specs.Machine.{Value, Int_value, Environment, Level, Frame, Suspended, Thread, Running, Ended, Stopped, Config, ComputesTo, Acts, Chooses, IsAt, NStep, Step_stops, Step_branches, Step_joins, Step_returns, Step_ends, rest_of}
use Rattle.mz_lower.specs.Layout.{instr, size_body, size_op}
use Rattle.mz_lower.specs.Addresses.{StandsAt}
use Rattle.mz_lower.specs.StandsFor.{raw_value, RegistersAgree, ComesTo, Comes_here, Comes_by_jump, WaitingStand, None_wait, One_waits, StandsRunning, ThreadStands, EndStands}
use Rattle.mz_lower.proofs.Addresses.{remaining, if_false, if_place, branch_end_place}
use Rattle.mz_words.proofs.Lists.{set_long}
use Rattle.mz_lower.proofs.Simulation.{Simulation, EventAt}
use Rattle.mz_lower.proofs.CanDo.{ThreadIsFine, CanDo, Can_act, Can_stop, Can_wait, Can_choose, Can_call, Can_spawn, fine_can}
use Rattle.mz_lower.proofs.Binding.{nil_right, bind, bind_binds, regs_bound, AtCommand, frame_at, at_frame, at_op, next_of, moves_on, binds_on, goes_with, rests_with, gone}

-- what makes no entry prints nothing
pub quiet_prints : (a : Ask) → printed a Quiet ≡ []
quiet_prints (Prints v) = refl
quiet_prints a = refl

-- a named step of thread n, and what is kept behind it
abbrev pub StepOn : Program → Code → Options → Raw → Config → ℕ → Type 0
StepOn p c o s' w n = (w' : Config) × NStep p w n w' × Simulation p c o s' w'

-- what an event of thread k comes to, by whether it gives a named step: that step of its thread, or none
abbrev pub KeptAs : Program → Code → Options → Raw → Raw → Config → ℕ → Bool → Type 0
KeptAs p c o s s' w k true = (n : ℕ) × (slice_get s.born n ≡ Some k) × StepOn p c o s' w n
KeptAs p c o s s' w k false = Simulation p c o s' w

-- the same, where it is known whether a step is given
pub kept_as : (p : Program) (c : Code) (o : Options) (s s' : Raw) (w : Config) (k : ℕ) (a b : Bool) → a ≡ b → KeptAs p c o s s' w k b → KeptAs p c o s s' w k a
kept_as p c o s s' w k a b e h = subst (λ (x : Bool). KeptAs p c o s s' w k x) (sym e) h

module _ (p : Program) (c : Code) (o : Options) (s s' : Raw) (w : Config) (S : Simulation p c o s w) (k n : ℕ) (values : Environment) (to : ℕ) (place : Place) (rest : List Command) (value : ℕ) (outer : List Level) (below : List Suspended) where
  -- a command whose instruction is local and gives a number
  local_next : (op : Op) (a : Option Instr) (raw : ℕ) (v : Value) → size_op op ≡ 1 → AtCommand c s w k n values to op place rest value outer below
      → EventAt c o s k Quiet s' Ready a → s'.thread k ≡ gives to raw (s.thread k) → ((q : ℕ) → s'.word q ≡ s.word q) → s'.prints ≡ s.prints
      → raw ≡ raw_value v → Acts w.heap.at values op v w.heap.at [] → StepOn p c o s' w n
  local_next op a raw v one at e mine words prints is d =
      binds_on p c o s s' w S k n values to op place rest value outer below at one v raw (s.thread k).units 0 (s.thread k).lost
      e.number (λ q h. words q) e.blocks (e.born ∙ nil_right s.born) prints e.others mine is (omega arith) (S.units k) d

  -- Int, Unit, Fun
  pub const_next : (op : Op) (m : ℕ) (v : Value) → size_op op ≡ 1 → AtCommand c s w k n values to op place rest value outer below
      → EventAt c o s k Quiet s' Ready (Some (instr place (Const to m))) → m ≡ raw_value v → Acts w.heap.at values op v w.heap.at [] → StepOn p c o s' w n
  const_next op m v one at e is d = local_next op _ m v one at e e.mine e.words (e.prints ∙ nil_right s.prints) is d

  -- a Copy gives the value of the other name
  pub copy_next : (x : ℕ) → AtCommand c s w k n values to (Copy_op x) place rest value outer below
      → EventAt c o s k Quiet s' Ready (Some (instr place (Copy to x))) → StepOn p c o s' w n
  copy_next x at e = local_next (Copy_op x) (Some (instr place (Copy to x))) (reg (s.thread k) x) (values x) refl at e e.mine e.words (e.prints ∙ nil_right s.prints) (at.regs.agree x) (refl, λ b. refl, refl)

  -- a sum and the like: a result, or a stop
  pub arith_next : (operator : Arith) (x y : ℕ) → AtCommand c s w k n values to (Arith_op operator x y) place rest value outer below → ThreadIsFine p w n
      → EventAt c o s k Quiet s' Ready (Some (instr place (Arith_act to operator x y))) → StepOn p c o s' w n
  arith_next operator x y at fine e = by_can (fine_can p w n next fine)
    where
      next : IsAt w n (frame_at values (at_op to (Arith_op operator x y) place rest value) outer) below (The_command to (Arith_op operator x y) place) rest
      next = next_of c s w k n values to (Arith_op operator x y) place rest value outer below at

      mine_is : (result : Option ℕ) → ComputesTo (values x) (values y) operator result → s'.thread k ≡ gives_or place to result (s.thread k)
      mine_is result r = e.mine ∙ ap (λ z. gives_or place to (computed operator z (reg (s.thread k) y)) (s.thread k)) (at.regs.agree x ∙ ap raw_value r.is_left)
          ∙ ap (λ z. gives_or place to (computed operator r.left z) (s.thread k)) (at.regs.agree y ∙ ap raw_value r.is_right) ∙ ap (λ z. gives_or place to z (s.thread k)) r.gives

      by_can : CanDo p values (Arith_op operator x y) w.heap.at → StepOn p c o s' w n
      by_can (Can_act v at' out d) =
          local_next (Arith_op operator x y) (Some (instr place (Arith_act to operator x y))) d.0.0 (Int_value d.0.0) refl at e (mine_is (Some d.0.0) d.0.1) e.words (e.prints ∙ nil_right s.prints) refl ((d.0.0, d.0.1, refl), λ b. refl, refl)
      by_can (Can_stop d) = (
        gone p c o s s' w S k n e.number (λ q h. e.words q) e.blocks (e.born ∙ nil_right s.born) (e.prints ∙ nil_right s.prints) e.others at.is (at_frame values (at_op to (Arith_op operator x y) place rest value) outer below) Stopped at.here (stop (ending.Arith place) (s.thread k)) 0 (mine_is None d) (omega arith) (S.units k) refl (λ w2 h. tt),
        Step_stops _ below _ rest next d (moves_on w n _ Stopped at.here),
        goes_with p c o s s' w S k n e.number (λ q h. e.words q) e.blocks (e.born ∙ nil_right s.born) (e.prints ∙ nil_right s.prints) e.others at.is (at_frame values (at_op to (Arith_op operator x y) place rest value) outer below) Stopped at.here (stop (ending.Arith place) (s.thread k)) 0 (mine_is None d) (omega arith) (S.units k) refl (λ w2 h. tt),
      )
      by_can (Can_wait h) = absurd h
      by_can (Can_choose body h) = absurd h
      by_can (Can_call callee2 args2 q2 g2) = absurd (cc)
      by_can (Can_spawn callee2 arg2 q2 g2) = absurd (cc)

  -- a branch: thread k goes on at a place for the body that is chosen
  pub branch_goes : (op : Op) (body : Body) (target units more lost : ℕ) → AtCommand c s w k n values to op place rest value outer below
      → k < 64 → ((q : ℕ) → s'.word q ≡ s.word q) → ((b : ℕ) → s'.blocks b ≡ s.blocks b) → s'.born ≡ s.born → s'.prints ≡ s.prints → ((j : ℕ) → j ≢ k → s'.thread j ≡ s.thread j)
      → s'.thread k ≡ record { at = target; regs = (s.thread k).regs; below = (s.thread k).below; units = units; lost = lost; stage = Border }
      → units ≡ (s.thread k).units + more → units ≤ o.steps
      → Chooses w.heap.at values op body → StandsAt c.instrs (length (s.thread k).regs) target (rest_of body) (record { to = to; after = remaining rest value } ∷ outer) → StepOn p c o s' w n
  branch_goes op body target units more lost at number words blocks born prints others mine counts within chooses stands = (
    _,
    Step_branches _ below _ rest body (next_of c s w k n values to op place rest value outer below at) chooses (moves_on w n _ (at_frame values (rest_of body) (record { to = to; after = remaining rest value } ∷ outer) below) at.here),
    goes_with p c o s s' w S k n number (λ q h. words q) blocks born prints others at.is _ (at_frame values (rest_of body) (record { to = to; after = remaining rest value } ∷ outer) below) at.here
        (record { at = target; regs = (s.thread k).regs; below = (s.thread k).below; units = units; lost = lost; stage = Border }) more mine counts within
        (record { top = record { env = values; rest = rest_of body; outer = record { to = to; after = remaining rest value } ∷ outer }; below = below; is = refl; frames = record { regs = at.regs; place = Comes_here stands; under = at.under } })
        (λ w2 h. tt),
  )

  -- a Branch leads to the branch that its named step chooses
  pub if_next : (test : ℕ) (one two : Body) (giving : List (Atom ℕ)) → AtCommand c s w k n values to (If_op test one two giving) place rest value outer below → ThreadIsFine p w n
      → EventAt c o s k Quiet s' Ready (Some (instr place (Branch test ((s.thread k).at + 1 + (size_body one + 2))))) → StepOn p c o s' w n
  if_next test one two giving at fine e = by_can (fine_can p w n (next_of c s w k n values to (If_op test one two giving) place rest value outer below at) fine)
    where
      places : (slice_get c.instrs (s.thread k).at ≡ Some (instr place (Branch test ((s.thread k).at + 1 + (size_body one + 2)))))
          × StandsAt c.instrs (length (s.thread k).regs) ((s.thread k).at + 1) (rest_of one) (record { to = to; after = remaining rest value } ∷ outer)
          × StandsAt c.instrs (length (s.thread k).regs) ((s.thread k).at + 1 + (size_body one + 2)) (rest_of two) (record { to = to; after = remaining rest value } ∷ outer)
      places = if_place c.instrs (length (s.thread k).regs) (s.thread k).at to test one two giving place rest value outer at.stands

      target : ℕ
      target = (s.thread k).at + 1 + (size_body one + 2)

      -- which way the code goes
      mine_is : (m : ℕ) → values test ≡ Int_value m → s'.thread k ≡ (if m == 0 then goes_to target (s.thread k) else goes_to ((s.thread k).at + 1) (s.thread k))
      mine_is m h = e.mine ∙ ap (λ z. if z == 0 then goes_to target (s.thread k) else goes_to ((s.thread k).at + 1) (s.thread k)) (at.regs.agree test ∙ ap raw_value h)

      by_number : (m : ℕ) → values test ≡ Int_value m → StepOn p c o s' w n
      by_number zero h = branch_goes (If_op test one two giving) two target (s.thread k).units 0 (s.thread k).lost at e.number e.words e.blocks (e.born ∙ nil_right s.born) (e.prints ∙ nil_right s.prints) e.others
          (mine_is 0 h) (omega arith) (S.units k) (0, h, refl) places.2
      by_number (suc m) h = branch_goes (If_op test one two giving) one ((s.thread k).at + 1) (s.thread k).units 0 (s.thread k).lost at e.number e.words e.blocks (e.born ∙ nil_right s.born) (e.prints ∙ nil_right s.prints) e.others
          (mine_is (suc m) h ∙ if_false (suc m == 0) (ne_eqb (suc m) 0 (λ z. omega (arith, z))) (goes_to target (s.thread k)) (goes_to ((s.thread k).at + 1) (s.thread k))) (omega arith) (S.units k) (suc m, h, refl) places.1

      by_can : CanDo p values (If_op test one two giving) w.heap.at → StepOn p c o s' w n
      by_can (Can_act v at' out d) = absurd d
      by_can (Can_stop h) = absurd h
      by_can (Can_wait h) = absurd h
      by_can (Can_choose body d) = by_number d.0 d.1
      by_can (Can_call callee2 args2 q2 g2) = absurd (cc)
      by_can (Can_spawn callee2 arg2 q2 g2) = absurd (cc)

-- ---- the end of a body

-- thread k is at the end of its innermost body
pub record AtEnd (c : Code) (s : Raw) (w : Config) (k n : ℕ) (values : Environment) (value : ℕ) (outer : List Level) (below : List Suspended) : Type 0 where
  pub is : slice_get s.born n ≡ Some k
  pub here : slice_get w.threads n ≡ Some (at_frame values (remaining [] value) outer below)
  pub regs : RegistersAgree values (s.thread k).regs
  pub stands : StandsAt c.instrs (length (s.thread k).regs) (s.thread k).at (remaining [] value) outer
  pub under : WaitingStand c.instrs (s.thread k).below below

module _ (p : Program) (c : Code) (o : Options) (s s' : Raw) (w : Config) (S : Simulation p c o s w) (k n : ℕ) (values : Environment) (value : ℕ) (brace : Place) (below : List Suspended) where
  -- the Copy that ends a branch; the Jump that follows stands for what it leads to
  pub branch_end_next : (level : Level) (outer : List Level) (place : Place) → AtEnd c s w k n values value (level ∷ outer) below → EventAt c o s k Quiet s' Ready (Some (instr place (Copy level.to value))) → StepOn p c o s' w n
  branch_end_next level outer place at e = (
    gone p c o s s' w S k n e.number (λ q h. e.words q) e.blocks (e.born ∙ nil_right s.born) (e.prints ∙ nil_right s.prints) e.others at.is _ u at.here t' 0 e.mine (omega arith) (S.units k) stands (λ w2 h. tt),
    Step_joins _ below level outer (bind level.to v values) (record { here = at.here; done = refl }) refl (bind_binds level.to v values) (moves_on w n _ u at.here),
    goes_with p c o s s' w S k n e.number (λ q h. e.words q) e.blocks (e.born ∙ nil_right s.born) (e.prints ∙ nil_right s.prints) e.others at.is _ u at.here t' 0 e.mine (omega arith) (S.units k) stands (λ w2 h. tt),
  )
    where
      v : Value
      v = values value

      u : Thread
      u = at_frame (bind level.to v values) level.after outer below

      t' : Standing
      t' = gives level.to (reg (s.thread k) value) (s.thread k)

      stands : ThreadStands c.instrs p s'.word k t' u
      stands =
          let b = branch_end_place c.instrs (length (s.thread k).regs) (s.thread k).at value level outer at.stands in
          record {
            top = record { env = bind level.to v values; rest = level.after; outer = outer };
            below = below;
            is = refl;
            frames = record {
              regs = regs_bound values (s.thread k).regs level.to (reg (s.thread k) value) v at.regs b.bound (at.regs.agree value);
              place = Comes_by_jump b.end b.place b.jump (subst (λ m. StandsAt c.instrs m b.end level.after outer) (sym (set_long (s.thread k).regs level.to (reg (s.thread k) value))) b.stands);
              under = at.under;
            };
          }

  -- a Return to a frame that waits
  pub return_next : (waiting : Suspended) → AtEnd c s w k n values value [] (waiting ∷ below) → EventAt c o s k Quiet s' Ready (Some (instr brace (Return value))) → StepOn p c o s' w n
  return_next waiting at e = under_next (s.thread k).below refl at.under
    where
      v : Value
      v = values value

      u : Thread
      u = at_frame (bind waiting.to v waiting.frame.env) waiting.frame.rest waiting.frame.outer below

      under_next : (l : List Waiting) → (s.thread k).below ≡ l → WaitingStand c.instrs l (waiting ∷ below) → StepOn p c o s' w n
      under_next l same (One_waits r _ rs _ regs to_is fits goes under) = (
        gone p c o s s' w S k n e.number (λ q h. e.words q) e.blocks (e.born ∙ nil_right s.born) (e.prints ∙ nil_right s.prints) e.others at.is _ u at.here t' 0 mine (omega arith) (S.units k) stands (λ w2 h. tt),
        Step_returns _ waiting below (bind waiting.to v waiting.frame.env) (record { here = at.here; done = refl }) refl (bind_binds waiting.to v waiting.frame.env) (moves_on w n _ u at.here),
        goes_with p c o s s' w S k n e.number (λ q h. e.words q) e.blocks (e.born ∙ nil_right s.born) (e.prints ∙ nil_right s.prints) e.others at.is _ u at.here t' 0 mine (omega arith) (S.units k) stands (λ w2 h. tt),
      )
        where
          raw : ℕ
          raw = reg (s.thread k) value

          t' : Standing
          t' = record { at = r.at; regs = slice_set r.regs waiting.to raw; below = rs; units = (s.thread k).units; lost = (s.thread k).lost; stage = Border }

          mine : s'.thread k ≡ t'
          mine = e.mine ∙ ap (λ (x : List Waiting). returns raw x (s.thread k)) same ∙ ap (λ x. record { at = r.at; regs = slice_set r.regs x raw; below = rs; units = (s.thread k).units; lost = (s.thread k).lost; stage = Border }) to_is

          stands : ThreadStands c.instrs p s'.word k t' u
          stands = record {
            top = record waiting.frame { env = bind waiting.to v waiting.frame.env };
            below = below;
            is = refl;
            frames = record {
              regs = regs_bound waiting.frame.env r.regs waiting.to raw v regs fits (at.regs.agree value);
              place = subst (λ m. ComesTo c.instrs m r.at waiting.frame.rest waiting.frame.outer) (sym (set_long r.regs waiting.to raw)) goes;
              under = under;
            };
          }

  -- a Return from the first frame
  pub done_next : AtEnd c s w k n values value [] [] → EventAt c o s k Quiet s' Ready (Some (instr brace (Return value))) → StepOn p c o s' w n
  done_next at e = under_next (s.thread k).below refl at.under
    where
      under_next : (l : List Waiting) → (s.thread k).below ≡ l → WaitingStand c.instrs l [] → StepOn p c o s' w n
      under_next l same None_wait = (
        gone p c o s s' w S k n e.number (λ q h. e.words q) e.blocks (e.born ∙ nil_right s.born) (e.prints ∙ nil_right s.prints) e.others at.is _ Ended at.here t' 0 mine (omega arith) (S.units k) refl (λ w2 h. tt),
        Step_ends _ (record { here = at.here; done = refl }) refl (moves_on w n _ Ended at.here),
        goes_with p c o s s' w S k n e.number (λ q h. e.words q) e.blocks (e.born ∙ nil_right s.born) (e.prints ∙ nil_right s.prints) e.others at.is _ Ended at.here t' 0 mine (omega arith) (S.units k) refl (λ w2 h. tt),
      )
        where
          t' : Standing
          t' = stop ending.Done (s.thread k)

          mine : s'.thread k ≡ t'
          mine = e.mine ∙ ap (λ (x : List Waiting). returns (reg (s.thread k) value) x (s.thread k)) same

-- ---- events without a named step

module _ (p : Program) (c : Code) (o : Options) (s s' : Raw) (w : Config) (S : Simulation p c o s w) (k n : ℕ) (u : Thread) (is : slice_get s.born n ≡ Some k) (here : slice_get w.threads n ≡ Some u) where
  -- the look at STOP before an instruction isn't met
  pub look_next : (i : Instr) → StandsRunning c.instrs (s.thread k) u → EventAt c o s k Quiet s' Border (Some i) → Simulation p c o s' w
  look_next i r e = rests_with p c o s s' w S k n e.number (λ q h. e.words q) e.blocks (e.born ∙ nil_right s.born) (e.prints ∙ nil_right s.prints) e.others is u u here
      (record { at = (s.thread k).at; regs = (s.thread k).regs; below = (s.thread k).below; units = (s.thread k).units; lost = (s.thread k).lost; stage = Ready }) 0 e.mine (omega arith) (S.units k)
      (record { top = r.top; below = r.below; is = r.is; frames = record { regs = r.frames.regs; place = r.frames.place; under = r.frames.under } }) (λ w2 h. tt) refl

  -- it is met: the word stays
  pub halt_next : (i : Instr) (m : ℕ) → StandsRunning c.instrs (s.thread k) u → EventAt c o s k (Saw m) s' Border (Some i) → Simulation p c o s' w
  halt_next i m r e = rests_with p c o s s' w S k n e.number (λ q h. same q) e.blocks (e.born ∙ nil_right s.born) (e.prints ∙ nil_right s.prints) e.others is u u here
      (record (s.thread k) { lost = 0; stage = Over ending.Halted }) 0 e.mine (omega arith) (S.units k)
      (inl (record { top = r.top; below = r.below; is = r.is; frames = record { regs = r.frames.regs; place = r.frames.place; under = r.frames.under } })) (λ w2 h. tt) refl
    where
      same : (q : ℕ) → s'.word q ≡ s.word q
      same q = e.words q ∙ either (3 == q)
        where
          either : (b : Bool) → (if b then s.word q else s.word q) ≡ s.word q
          either true = refl
          either false = refl

  -- a Jump
  pub jump_next : (place : Place) (end : ℕ) (top : Frame) (below : List Suspended) → u ≡ Running top below → RegistersAgree top.env (s.thread k).regs → StandsAt c.instrs (length (s.thread k).regs) end top.rest top.outer → WaitingStand c.instrs (s.thread k).below below
      → EventAt c o s k Quiet s' Ready (Some (instr place (Jump end))) → Simulation p c o s' w
  jump_next place end top below q r g b e = rests_with p c o s s' w S k n e.number (λ q h. e.words q) e.blocks (e.born ∙ nil_right s.born) (e.prints ∙ nil_right s.prints) e.others is u u here
      (goes_to end (s.thread k)) 0 e.mine (omega arith) (S.units k)
      (record { top = top; below = below; is = q; frames = record { regs = r; place = Comes_here g; under = b } }) (λ w2 h. tt) refl

  -- an end that cuts the thread: Spent, StackFull, Memory; its named thread stays where it is
  pub cut_next : (e : End) → EndStands c.instrs p s'.word k (stop e (s.thread k)) e u → s'.thread k ≡ stop e (s.thread k)
      → k < 64 → ((q : ℕ) → s'.word q ≡ s.word q) → ((b : ℕ) → s'.blocks b ≡ s.blocks b) → s'.born ≡ s.born → s'.prints ≡ s.prints → ((j : ℕ) → j ≢ k → s'.thread j ≡ s.thread j) → Simulation p c o s' w
  cut_next e ends mine number words blocks born prints others = rests_with p c o s s' w S k n number (λ q h. words q) blocks born prints others is u u here (stop e (s.thread k)) 0 mine (omega arith) (S.units k) ends (λ w2 h. tt) refl
