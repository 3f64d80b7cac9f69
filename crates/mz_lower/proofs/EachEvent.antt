-- Each event keeps what is kept, by no named step or by one.
use Rattle.std.proofs.Common.{◌≡◌, ◌⊎◌, inl, inr, ℕ, zero, suc, ◌+◌, List, [], ◌∷◌, ◌++◌, length, Option, Some, None, Bool, true, false, leb, ltb, refl, ap, ◌∙◌, subst}
use Rattle.std.specs.Prelude.{slice_get, if◌then◌else◌}
use Rattle.mz_tree.specs.declared.types.Place.{Place}
use Rattle.mz_tree.specs.Code.{Op, Int_op, Unit_op, Fun_op, Copy_op, Arith_op, New_op, Read_op, Write_op, Retag_op, If_op, Match_op, Call_op, Give_op, Take_op, New_lock_op, Acquire_op, Release_op, Spawn_op, Print_op, The_command, Command}
use Rattle.mz_tree.specs.Programs.{Program}
use Rattle.mz_words.specs.declared.code.Act.{Act}
use Rattle.mz_words.specs.declared.code.Act.TheVariants.{Const, Copy, Arith as Arith_act, New, Read, Write, Retag, Switch, Branch, Jump, Call, Return, Give, Take, NewLock, Acquire, Release, Spawn, Print}
use Rattle.mz_words.specs.declared.code.Instr.{Instr}
use Rattle.mz_words.specs.declared.code.Start.{Start}
use Rattle.mz_words.specs.declared.code.Code.{Code}
use Rattle.mz_words.specs.declared.options.Options.{Options}
use Rattle.mz_words.specs.declared.ends.End.{End}
use Rattle.mz_words.specs.declared.ends.End.TheVariants as ending
use Rattle.mz_words.specs.declared.asks.Ask.{Ask}
use Rattle.mz_words.specs.declared.asks.Ask.TheVariants.{Local, Frames, Adds, Prints, Stops, Leaves, Nothing}
use Rattle.mz_words.specs.declared.asks.Answer.{Answer}
use Rattle.mz_words.specs.declared.asks.Answer.TheVariants.{Saw, Quiet, Missed, Refused}
use Rattle.mz_words.specs.declared.stages.Stage.{Stage}
use Rattle.mz_words.specs.declared.stages.Stage.TheVariants.{Idle, IdleStop, IdleLive, LoadFun, LoadArg, Entering, Border, Ready, Making, Taking, Spawning, Unmatched, Closing, Over}
use Rattle.mz_words.specs.Standing.{Standing}
use Rattle.mz_words.specs.Steps.{reg, counted, placed, ask_act, ask_at, ask_call, callee_of, is_full, ask_frame, ask_closing, first_params, spawn_step, take_quiet, take_local, stop}
use Rattle.mz_words.specs.Answers.{May}
use Rattle.mz_words.specs.Raw.{Raw, printed, Event}
use Rattle.mz_named.specs.Machine.{Value, Int_value, Fun_value, Config, Thread, Environment, Level, Suspended, IsFine, Acts}
use Rattle.mz_lower.proofs.CanDo.{ThreadIsFine}
use Rattle.mz_lower.specs.Layout.{instr, size_body, size_op, lay_op, cons_in, targets_in}
use Rattle.mz_lower.specs.NamedRuns.{local_gives, quiet_gives, gives_step_at, gives_step}
use Rattle.mz_lower.specs.Addresses.{HasAt, OpBelow}
use Rattle.mz_lower.specs.StandsFor.{raw_value, RegistersAgree, ComesTo, Comes_here, Comes_by_jump, WaitingStand, StandsRunning, StageStands, EndStands}
use Rattle.mz_lower.proofs.Addresses.{remaining, head_of, branch_end_place, return_place}
use Rattle.mz_lower.proofs.Simulation.{Simulation, Dormant, EventAt, event_at}
use Rattle.mz_lower.proofs.Binding.{nil_right, AtCommand, frame_at, at_frame, at_op}
use Rattle.mz_lower.proofs.LocalActs.{StepOn, KeptAs, kept_as, quiet_prints, const_next, copy_next, arith_next, if_next, AtEnd, branch_end_next, return_next, done_next, look_next, halt_next, jump_next, cut_next}
use Rattle.mz_lower.proofs.Loads.{read_next, switch_next}
use Rattle.mz_lower.proofs.Writes.{write_next, retag_next, acquire_next, release_next}
use Rattle.mz_lower.proofs.Making.{Limited}
use Rattle.mz_lower.proofs.NewBlocks.{running_at, new_draws, lock_draws, new_stores, lock_stores}
use Rattle.mz_lower.proofs.Calls.{Coded, call_next, enter_next, fun_next, arg_next}
use Rattle.mz_lower.proofs.Prints.{print_next, missed_next, close_next}
use Rattle.mz_lower.proofs.Takes.{look_take_next}
use Rattle.mz_lower.proofs.Adopting.{give_next, clear_next}
use Rattle.mz_lower.proofs.Spawns.{spawn_asks, spawn_draws, spawn_stores}
use Rattle.mz_lower.proofs.FirstInstructions.{act_of, head_act}
use Rattle.mz_lower.proofs.Still.{waiting_words}
use Rattle.mz_lower.proofs.Idle.{find_in, idle_born, idle_unborn}

missed_prints : (a : Ask) → printed a Missed ≡ []
missed_prints (Prints v) = refl
missed_prints a = refl

refused_prints : (a : Ask) → printed a Refused ≡ []
refused_prints (Prints v) = refl
refused_prints a = refl

-- what is counted is quiet only where the units are spent
quiet_by : (b : Bool) (y : Ask) → (May y Quiet → ⊥) → May (if b then Local else y) Quiet → (if b then Local else y) ≡ Local
quiet_by true y n m = refl
quiet_by false y n m = absurd (n m)

quiet_local : (o : Options) (t : Standing) (y : Ask) → (May y Quiet → ⊥) → May (counted o t y) Quiet → counted o t y ≡ Local
quiet_local o t y n m = quiet_by (leb o.steps t.units) y n m

placed_by : (answer : Answer) (b : Bool) (y : Ask) → (May y answer → ⊥) → (May Nothing answer → ⊥) → May (if b then y else Nothing) answer → ⊥
placed_by answer true y n z m = n m
placed_by answer false y n z m = z m

placed_not : (answer : Answer) (o : Options) (place : ℕ) (y : Ask) → (May y answer → ⊥) → (May Nothing answer → ⊥) → May (placed o place y) answer → ⊥
placed_not answer o place y n z m = placed_by answer (ltb place o.heap) y n z m

counted_not : (answer : Answer) (o : Options) (t : Standing) (y : Ask) → (May Local answer → ⊥) → (May y answer → ⊥) → May (counted o t y) answer → ⊥
counted_not answer o t y l n m = by_flag (leb o.steps t.units) m
  where
    by_flag : (b : Bool) → May (if b then Local else y) answer → ⊥
    by_flag true h = l h
    by_flag false h = n h

-- a call is answered quietly or refused
call_by : (answer : Answer) (b : Bool) (m : ℕ) → (May Local answer → ⊥) → ((m : ℕ) → May (Frames m) answer → ⊥) → May (if b then Local else Frames m) answer → ⊥
call_by answer true m l f h = l h
call_by answer false m l f h = f m h

call_no : (answer : Answer) (t : Standing) → (May Local answer → ⊥) → (May Nothing answer → ⊥) → ((m : ℕ) → May (Frames m) answer → ⊥) → (x : Option Start) → May (ask_call t x) answer → ⊥
call_no answer t l z f None h = z h
call_no answer t l z f (Some x) h = call_by answer (is_full t x) x.registers l f h

nothing : (answer : Answer) → May Nothing answer → ⊥
nothing (Saw m) h = h
nothing Quiet h = h
nothing Missed h = h
nothing Refused h = h

spawn_missed : (t : Standing) (callee arg j i : ℕ) → May (spawn_step t callee arg j i) Missed → ⊥
spawn_missed t callee arg j zero h = h
spawn_missed t callee arg j (suc zero) h = h
spawn_missed t callee arg j (suc (suc zero)) h = h
spawn_missed t callee arg j (suc (suc (suc i))) h = h

frame_not : (answer : Answer) → (May Nothing answer → ⊥) → ((m : ℕ) → May (Frames m) answer → ⊥) → (x : Option Start) → May (ask_frame x) answer → ⊥
frame_not answer z f None h = z h
frame_not answer z f (Some x) h = f x.registers h

closing_not : (answer : Answer) (e : End) → (May Leaves answer → ⊥) → (May Stops answer → ⊥) → May (ask_closing e) answer → ⊥
closing_not answer ending.Done l x h = l h
closing_not answer e l x h = x h

-- what an event of thread k comes to: where it gives a named step, that step of its thread, else none
abbrev pub Kept : Program → Code → Options → Raw → Raw → Config → ℕ → Answer → Type 0
Kept p c o s s' w k answer = KeptAs p c o s s' w k (gives_step c o s k answer)

abbrev KeptAt : Program → Code → Options → Raw → Raw → Config → ℕ → Stage → Option Instr → Answer → Type 0
KeptAt p c o s s' w k stage a answer = KeptAs p c o s s' w k (gives_step_at c o (s.thread k) stage a answer)

here_kept : (p : Program) (c : Code) (o : Options) (s s' : Raw) (w : Config) (k : ℕ) (answer : Answer) (stage : Stage) (a : Option Instr) → (s.thread k).stage ≡ stage → slice_get c.instrs (s.thread k).at ≡ a → KeptAt p c o s s' w k stage a answer → Kept p c o s s' w k answer
here_kept p c o s s' w k answer stage a st found h =
    kept_as p c o s s' w k (gives_step c o s k answer) (gives_step_at c o (s.thread k) stage a answer)
    (ap (λ (x : Stage). gives_step_at c o (s.thread k) x (slice_get c.instrs (s.thread k).at) answer) st ∙ ap (λ (x : Option Instr). gives_step_at c o (s.thread k) stage x answer) found) h

-- a thread that nobody started gives no named step
dormant_gives : (c : Code) (o : Options) (t : Standing) (stage : Stage) (a : Option Instr) (answer : Answer) → Dormant stage → gives_step_at c o t stage a answer ≡ false
dormant_gives c o t Idle a answer d = refl
dormant_gives c o t IdleStop a answer d = refl
dormant_gives c o t IdleLive a answer d = refl
dormant_gives c o t (Over e) a answer d = refl
dormant_gives c o t stage a answer d = absurd d

module _ (p : Program) (c : Code) (coded : Coded p c) (o : Options) (limited : Limited o) (s s' : Raw) (w : Config) (S : Simulation p c o s w) (safe : IsFine p w) (k n : ℕ) (is : slice_get s.born n ≡ Some k) where
  -- a cut at the first step of an instruction
  cut_ready : (u : Thread) (answer : Answer) (i : Instr) (e : End) → slice_get w.threads n ≡ Some u → StandsRunning c.instrs (s.thread k) u → EventAt c o s k answer s' Ready (Some i)
      → ((q : ℕ) → s'.word q ≡ s.word q) → ((b : ℕ) → s'.blocks b ≡ s.blocks b) → s'.born ≡ s.born → s'.prints ≡ s.prints
      → EndStands c.instrs p s'.word k (stop e (s.thread k)) e u → s'.thread k ≡ stop e (s.thread k) → Simulation p c o s' w
  cut_ready u answer i e here r v words blocks born prints ends mine = cut_next p c o s s' w S k n u is here e ends mine v.number words blocks born prints v.others

  module _ (values : Environment) (to : ℕ) (place : Place) (rest : List Command) (value : ℕ) (outer : List Level) (below : List Suspended) where
    -- the units are spent, or memory is refused
    spent : (op : Op) (a : Act) → AtCommand c s w k n values to op place rest value outer below → EventAt c o s k Quiet s' Ready (Some (instr place a))
        → ask_act c o (s.thread k) a ≡ Local → take_local o place (s.thread k) a ≡ stop ending.Spent (s.thread k) → Simulation p c o s' w
    spent op a at e asks takes =
        let r = running_at c s w k n values to op place rest value outer below at in
        cut_ready _ Quiet (instr place a) ending.Spent at.here r e e.words e.blocks (e.born ∙ nil_right s.born)
        (e.prints ∙ ap (λ (l : List ℕ). s.prints ++ l) (quiet_prints (ask_act c o (s.thread k) a)) ∙ nil_right s.prints)
        (record { top = r.top; below = r.below; is = r.is; frames = record { regs = r.frames.regs; place = r.frames.place; under = r.frames.under } })
        (e.mine ∙ ap (λ (x : Ask). take_quiet c o (s.thread k) (instr place a) x) asks ∙ takes)

    refused : (op : Op) (a : Act) → AtCommand c s w k n values to op place rest value outer below → EventAt c o s k Refused s' Ready (Some (instr place a)) → Simulation p c o s' w
    refused op a at e =
        let r = running_at c s w k n values to op place rest value outer below at in
        cut_ready _ Refused (instr place a) ending.Memory at.here r e e.words e.blocks (e.born ∙ nil_right s.born)
        (e.prints ∙ ap (λ (l : List ℕ). s.prints ++ l) (refused_prints (ask_act c o (s.thread k) a)) ∙ nil_right s.prints)
        (inl (record { top = r.top; below = r.below; is = r.is; frames = record { regs = r.frames.regs; place = r.frames.place; under = r.frames.under } })) e.mine

    t : Standing
    t = s.thread k

    step_is : StepOn p c o s' w n → (n : ℕ) × (slice_get s.born n ≡ Some k) × StepOn p c o s' w n
    step_is q = (n, is, q)

    at_const : (op : Op) (m : ℕ) (v : Value) (answer : Answer) → size_op op ≡ 1 → AtCommand c s w k n values to op place rest value outer below → EventAt c o s k answer s' Ready (Some (instr place (Const to m))) → m ≡ raw_value v
        → Acts w.heap.at values op v w.heap.at [] → KeptAt p c o s s' w k Ready (Some (instr place (Const to m))) answer
    at_const op m v Quiet one at e r d = step_is (const_next p c o s s' w S k n values to place rest value outer below op m v one at e r d)
    at_const op m v (Saw x) one at e r d = absurd e.may
    at_const op m v Missed one at e r d = absurd e.may
    at_const op m v Refused one at e r d = absurd e.may

    -- a local instruction answers quietly
    at_local : (a : Act) → ask_act c o (s.thread k) a ≡ Local → (EventAt c o s k Quiet s' Ready (Some (instr place a)) → KeptAt p c o s s' w k Ready (Some (instr place a)) Quiet) → (answer : Answer) → EventAt c o s k answer s' Ready (Some (instr place a)) → KeptAt p c o s s' w k Ready (Some (instr place a)) answer
    at_local a asks f Quiet e = f e
    at_local a asks f (Saw x) e = absurd (subst (λ (y : Ask). May y (Saw x)) asks e.may)
    at_local a asks f Missed e = absurd (subst (λ (y : Ask). May y Missed) asks e.may)
    at_local a asks f Refused e = absurd (subst (λ (y : Ask). May y Refused) asks e.may)

    -- an instruction whose first act is a word step: it saw something, or its units are spent, or memory is refused
    at_word : (op : Op) (a : Act) (y : Ask) → ask_act c o (s.thread k) a ≡ counted o (s.thread k) y → (May y Quiet → ⊥) → take_local o place (s.thread k) a ≡ stop ending.Spent (s.thread k) → local_gives a ≡ false
        → AtCommand c s w k n values to op place rest value outer below → ((m : ℕ) → EventAt c o s k (Saw m) s' Ready (Some (instr place a)) → KeptAt p c o s s' w k Ready (Some (instr place a)) (Saw m))
        → (EventAt c o s k Missed s' Ready (Some (instr place a)) → Simulation p c o s' w) → (answer : Answer) → EventAt c o s k answer s' Ready (Some (instr place a)) → KeptAt p c o s s' w k Ready (Some (instr place a)) answer
    at_word op a y asks quiet takes silent at f g (Saw m) e = f m e
    at_word op a y asks quiet takes silent at f g Quiet e =
        let local = asks ∙ quiet_local o (s.thread k) y quiet (subst (λ (x : Ask). May x Quiet) asks e.may) in
        kept_as p c o s s' w k (quiet_gives (ask_act c o (s.thread k) a) a) false (ap (λ (x : Ask). quiet_gives x a) local ∙ silent) (spent op a at e local takes)
    at_word op a y asks quiet takes silent at f g Missed e = g e
    at_word op a y asks quiet takes silent at f g Refused e = refused op a at e

    -- where no try is asked, none is missed
    never : (a : Act) (y : Ask) → ask_act c o (s.thread k) a ≡ counted o (s.thread k) y → (May y Missed → ⊥) → EventAt c o s k Missed s' Ready (Some (instr place a)) → Simulation p c o s' w
    never a y asks n_missed e = absurd (counted_not Missed o (s.thread k) y (λ h. h) n_missed (subst (λ (x : Ask). May x Missed) asks e.may))

    missed_here : (x : ℕ) → AtCommand c s w k n values to (Acquire_op x) place rest value outer below → EventAt c o s k Missed s' Ready (Some (instr place (Acquire to x))) → Simulation p c o s' w
    missed_here x at e = (missed_next p c o s s' w S k n (at_frame values (at_op to (Acquire_op x) place rest value) outer below) is at.here place (running_at c s w k n values to (Acquire_op x) place rest value outer below at) e.mine e.number e.words e.blocks (e.born ∙ nil_right s.born)
        (e.prints ∙ ap (λ (l : List ℕ). s.prints ++ l) (missed_prints (ask_act c o (s.thread k) (Acquire to x))) ∙ nil_right s.prints) e.others)

    call_here : (callee : ℕ) (args : List ℕ) → AtCommand c s w k n values to (Call_op callee args) place rest value outer below → ThreadIsFine p w n → (answer : Answer) → EventAt c o s k answer s' Ready (Some (instr place (Call to callee args))) → KeptAt p c o s s' w k Ready (Some (instr place (Call to callee args))) answer
    call_here callee args at fine Quiet e = (call_next p c coded o s s' w S k n values to place rest value outer below callee args at fine e)
    call_here callee args at fine (Saw m) e = absurd (call_not (Saw m) (λ h. h) (λ h. h) (λ m h. h) e.may)
      where
        call_not : (answer : Answer) → (May Local answer → ⊥) → (May Nothing answer → ⊥) → ((m : ℕ) → May (Frames m) answer → ⊥) → May (counted o (s.thread k) (ask_call (s.thread k) (callee_of c (reg (s.thread k) callee) (length args)))) answer → ⊥
        call_not answer l z f h = counted_not answer o (s.thread k) _ l (call_no answer (s.thread k) l z f (callee_of c (reg (s.thread k) callee) (length args))) h
    call_here callee args at fine Missed e = absurd (counted_not Missed o (s.thread k) _ (λ h. h) (call_no Missed (s.thread k) (λ h. h) (λ h. h) (λ m h. h) (callee_of c (reg (s.thread k) callee) (length args))) e.may)
    call_here callee args at fine Refused e = refused (Call_op callee args) (Call to callee args) at e

    -- thread k stands at a command
    at_command : (op : Op) (answer : Answer) → AtCommand c s w k n values to op place rest value outer below → ThreadIsFine p w n → Event c o s k answer s' → (s.thread k).stage ≡ Ready → Kept p c o s s' w k answer
    at_command op answer at fine v st = here_kept p c o s s' w k answer Ready (Some (instr place (act_of (s.thread k).at to op))) st (head_act c.instrs (s.thread k).at to place op (here op at).0) (by_op op at)
      where
        here : (op : Op) (at : AtCommand c s w k n values to op place rest value outer below) → HasAt c.instrs (s.thread k).at (lay_op (s.thread k).at to place op) × OpBelow (length (s.thread k).regs) op
        here op at = let h = head_of c.instrs (length (s.thread k).regs) (s.thread k).at (The_command to op place) rest value outer at.stands in (h.0, h.1.1)

        on : (a : Act) → slice_get c.instrs (s.thread k).at ≡ Some (instr place a) → EventAt c o s k answer s' Ready (Some (instr place a))
        on a q = event_at c o s k answer s' Ready (Some (instr place a)) v st q

        by_op : (op : Op) → AtCommand c s w k n values to op place rest value outer below → KeptAt p c o s s' w k Ready (Some (instr place (act_of (s.thread k).at to op))) answer
        by_op (Int_op m) at = at_const (Int_op m) m (Int_value m) answer refl at (on _ (here (Int_op m) at).0.0) refl (refl, λ b. refl, refl)
        by_op Unit_op at = at_const Unit_op 0 (Int_value 0) answer refl at (on _ (here Unit_op at).0.0) refl (refl, λ b. refl, refl)
        by_op (Fun_op f) at = at_const (Fun_op f) f (Fun_value f) answer refl at (on _ (here (Fun_op f) at).0.0) refl (refl, λ b. refl, refl)
        by_op (Copy_op x) at = at_local (Copy to x) refl (λ e. step_is (copy_next p c o s s' w S k n values to place rest value outer below x at e)) answer (on _ (here (Copy_op x) at).0.0)
        by_op (Arith_op operator x y) at = at_local (Arith_act to operator x y) refl (λ e. step_is (arith_next p c o s s' w S k n values to place rest value outer below operator x y at fine e)) answer (on _ (here (Arith_op operator x y) at).0.0)
        by_op (New_op con ys) at = at_word (New_op con ys) (New to con ys) (Adds 0 (length ys + 2)) refl (λ h. h) refl refl at
            (λ m e. (new_draws p c o s s' w S k n values to place rest value outer below limited con m ys (here (New_op con ys) at).1 at e))
            (never (New to con ys) (Adds 0 (length ys + 2)) refl (λ h. h)) answer (on _ (here (New_op con ys) at).0.0)
        by_op (Read_op x con i) at = at_word (Read_op x con i) (Read to x con i) _ refl (placed_not Quiet o _ _ (λ h. h) (λ h. h)) refl refl at
            (λ m e. step_is (read_next p c o s s' w S k n values to place rest value outer below x con i m at fine e))
            (never (Read to x con i) _ refl (placed_not Missed o _ _ (λ h. h) (λ h. h))) answer (on _ (here (Read_op x con i) at).0.0)
        by_op (Write_op x con i y) at = at_word (Write_op x con i y) (Write to x con i y) _ refl (placed_not Quiet o _ _ (λ h. h) (λ h. h)) refl refl at
            (λ m e. step_is (write_next p c o s s' w S k n values to place rest value outer below x con i y m at fine e))
            (never (Write to x con i y) _ refl (placed_not Missed o _ _ (λ h. h) (λ h. h))) answer (on _ (here (Write_op x con i y) at).0.0)
        by_op (Retag_op x old new) at = at_word (Retag_op x old new) (Retag to x old new) _ refl (placed_not Quiet o _ _ (λ h. h) (λ h. h)) refl refl at
            (λ m e. step_is (retag_next p c o s s' w S k n values to place rest value outer below x old new m at fine e))
            (never (Retag to x old new) _ refl (placed_not Missed o _ _ (λ h. h) (λ h. h))) answer (on _ (here (Retag_op x old new) at).0.0)
        by_op (If_op test one two giving) at = at_local (Branch test ((s.thread k).at + 1 + (size_body one + 2))) refl (λ e. step_is (if_next p c o s s' w S k n values to place rest value outer below test one two giving at fine e)) answer (on _ (here (If_op test one two giving) at).0.0)
        by_op (Match_op x d cases giving) at = at_word (Match_op x d cases giving) (Switch x (cons_in cases) (targets_in ((s.thread k).at + 1) cases)) _ refl (placed_not Quiet o _ _ (λ h. h) (λ h. h)) refl refl at
            (λ m e. step_is (switch_next p c o s s' w S k n values to place rest value outer below x d m cases giving at fine e))
            (never (Switch x (cons_in cases) (targets_in ((s.thread k).at + 1) cases)) _ refl (placed_not Missed o _ _ (λ h. h) (λ h. h))) answer (on _ (here (Match_op x d cases giving) at).0.0)
        by_op (Call_op callee args) at = call_here callee args at fine answer (on _ (here (Call_op callee args) at).0.0)
        by_op (Give_op x y) at = at_word (Give_op x y) (Give to x y) _ refl (placed_not Quiet o _ _ (λ h. h) (λ h. h)) refl refl at
            (λ m e. step_is (give_next p c o s s' w S safe k n values to place rest value outer below x y m at fine e))
            (never (Give to x y) _ refl (placed_not Missed o _ _ (λ h. h) (λ h. h))) answer (on _ (here (Give_op x y) at).0.0)
        by_op (Take_op x y) at = at_word (Take_op x y) (Take to x y) _ refl (placed_not Quiet o _ _ (λ h. h) (λ h. h)) refl refl at
            (λ m e. (look_take_next p c o s s' w S k n values to place rest value outer below x y m at fine e))
            (never (Take to x y) _ refl (placed_not Missed o _ _ (λ h. h) (λ h. h))) answer (on _ (here (Take_op x y) at).0.0)
        by_op (New_lock_op guarded) at = at_word (New_lock_op guarded) (NewLock to) (Adds 0 1) refl (λ h. h) refl refl at
            (λ m e. (lock_draws p c o s s' w S k n values to place rest value outer below limited m guarded at e))
            (never (NewLock to) (Adds 0 1) refl (λ h. h)) answer (on _ (here (New_lock_op guarded) at).0.0)
        by_op (Acquire_op x) at = at_word (Acquire_op x) (Acquire to x) _ refl (placed_not Quiet o _ _ (λ h. h) (λ h. h)) refl refl at
            (λ m e. step_is (acquire_next p c o s s' w S k n values to place rest value outer below x m at fine e))
            (missed_here x at) answer (on _ (here (Acquire_op x) at).0.0)
        by_op (Release_op x) at = at_word (Release_op x) (Release to x) _ refl (placed_not Quiet o _ _ (λ h. h) (λ h. h)) refl refl at
            (λ m e. step_is (release_next p c o s s' w S k n values to place rest value outer below x m at fine e))
            (never (Release to x) _ refl (placed_not Missed o _ _ (λ h. h) (λ h. h))) answer (on _ (here (Release_op x) at).0.0)
        by_op (Spawn_op callee arg) at =
            let asks = spawn_asks p c coded o limited s s' w S k n values to place rest value outer below callee arg at fine in
            at_word (Spawn_op callee arg) (Spawn to callee arg) (Adds 1 1) asks (λ h. h) refl refl at
            (λ m e. (spawn_draws p c coded o limited s s' w S k n values to place rest value outer below callee arg at fine m e))
            (never (Spawn to callee arg) (Adds 1 1) asks (λ h. h)) answer (on _ (here (Spawn_op callee arg) at).0.0)
        by_op (Print_op x) at = at_word (Print_op x) (Print to x) (Prints (reg (s.thread k) x)) refl (λ h. h) refl refl at
            (λ m e. step_is (print_next p c o s s' w S k n values to place rest value outer below x m at fine e))
            (never (Print to x) (Prints (reg (s.thread k) x)) refl (λ h. h)) answer (on _ (here (Print_op x) at).0.0)

    -- thread k is inside a command that makes a block
    at_making : (op : Op) (b y : ℕ) (answer : Answer) → AtCommand c s w k n values to op place rest value outer below → ThreadIsFine p w n → Event c o s k answer s' → (s.thread k).stage ≡ Making b y → Kept p c o s s' w k answer
    at_making op b y answer at fine v st = here_kept p c o s s' w k answer (Making b y) (Some (instr place (act_of (s.thread k).at to op))) st there (by_op op at answer (event_at c o s k answer s' (Making b y) (Some (instr place (act_of (s.thread k).at to op))) v st there))
      where
        there : slice_get c.instrs (s.thread k).at ≡ Some (instr place (act_of (s.thread k).at to op))
        there = head_act c.instrs (s.thread k).at to place op (head_of c.instrs (length (s.thread k).regs) (s.thread k).at (The_command to op place) rest value outer at.stands).0

        cut : (op : Op) (e : End) (answer : Answer) (a : Act) → AtCommand c s w k n values to op place rest value outer below → EventAt c o s k answer s' (Making b y) (Some (instr place a)) → printed (ask_at c o k (s.thread k) (Making b y) (Some (instr place a))) answer ≡ []
            → ((q : ℕ) → s'.word q ≡ s.word q) → ((q : ℕ) → s'.blocks q ≡ s.blocks q) → EndStands c.instrs p s'.word k (stop e (s.thread k)) e (at_frame values (at_op to op place rest value) outer below) → s'.thread k ≡ stop e (s.thread k) → Simulation p c o s' w
        cut op e answer a at v none words blocks ends mine = (cut_next p c o s s' w S k n (at_frame values (at_op to op place rest value) outer below) is at.here e ends mine v.number words blocks (v.born ∙ nil_right s.born)
            (v.prints ∙ ap (λ (l : List ℕ). s.prints ++ l) none ∙ nil_right s.prints) v.others)

        still : (op : Op) (e : End) → AtCommand c s w k n values to op place rest value outer below → StandsRunning c.instrs (stop e (s.thread k)) (at_frame values (at_op to op place rest value) outer below)
        still op e at = let r = running_at c s w k n values to op place rest value outer below at in
            record { top = r.top; below = r.below; is = r.is; frames = record { regs = r.frames.regs; place = r.frames.place; under = r.frames.under } }

        by_op : (op : Op) → AtCommand c s w k n values to op place rest value outer below → (answer : Answer) → EventAt c o s k answer s' (Making b y) (Some (instr place (act_of (s.thread k).at to op))) → KeptAt p c o s s' w k (Making b y) (Some (instr place (act_of (s.thread k).at to op))) answer
        by_op (New_op con ys) at (Saw m) e = (new_stores p c o s s' w S k n values to place rest value outer below limited con b y m ys at fine e)
        by_op (New_op con ys) at Quiet e = cut (New_op con ys) ending.Spent Quiet (New to con ys) at e (quiet_prints (ask_at c o k (s.thread k) (Making b y) (Some (instr place (New to con ys))))) e.words e.blocks (still (New_op con ys) ending.Spent at) e.mine
        by_op (New_op con ys) at Missed e = absurd (counted_not Missed o (s.thread k) _ (λ h. h) (placed_not Missed o _ _ (λ h. h) (λ h. h)) e.may)
        by_op (New_op con ys) at Refused e = cut (New_op con ys) ending.Memory Refused (New to con ys) at e (refused_prints (ask_at c o k (s.thread k) (Making b y) (Some (instr place (New to con ys))))) e.words e.blocks (inl (still (New_op con ys) ending.Memory at)) e.mine
        by_op (New_lock_op guarded) at (Saw m) e = (lock_stores p c o s s' w S k n values to place rest value outer below limited b y m guarded at e)
        by_op (New_lock_op guarded) at Quiet e = cut (New_lock_op guarded) ending.Spent Quiet (NewLock to) at e (quiet_prints (ask_at c o k (s.thread k) (Making b y) (Some (instr place (NewLock to))))) e.words e.blocks (still (New_lock_op guarded) ending.Spent at) e.mine
        by_op (New_lock_op guarded) at Missed e = absurd (counted_not Missed o (s.thread k) _ (λ h. h) (placed_not Missed o _ _ (λ h. h) (λ h. h)) e.may)
        by_op (New_lock_op guarded) at Refused e = cut (New_lock_op guarded) ending.Memory Refused (NewLock to) at e (refused_prints (ask_at c o k (s.thread k) (Making b y) (Some (instr place (NewLock to))))) e.words e.blocks (inl (still (New_lock_op guarded) ending.Memory at)) e.mine
        by_op op at answer e = absurd (nothing answer e.may)

    -- thread k is inside a command that takes a block back
    at_taking : (op : Op) (answer : Answer) → AtCommand c s w k n values to op place rest value outer below → ThreadIsFine p w n → Event c o s k answer s' → (s.thread k).stage ≡ Taking → Kept p c o s s' w k answer
    at_taking op answer at fine v st = here_kept p c o s s' w k answer Taking (Some (instr place (act_of (s.thread k).at to op))) st there (by_op op at answer (event_at c o s k answer s' Taking (Some (instr place (act_of (s.thread k).at to op))) v st there))
      where
        there : slice_get c.instrs (s.thread k).at ≡ Some (instr place (act_of (s.thread k).at to op))
        there = head_act c.instrs (s.thread k).at to place op (head_of c.instrs (length (s.thread k).regs) (s.thread k).at (The_command to op place) rest value outer at.stands).0

        cut : (op : Op) (e : End) (answer : Answer) (a : Act) → AtCommand c s w k n values to op place rest value outer below → EventAt c o s k answer s' Taking (Some (instr place a)) → printed (ask_at c o k (s.thread k) Taking (Some (instr place a))) answer ≡ []
            → ((q : ℕ) → s'.word q ≡ s.word q) → ((q : ℕ) → s'.blocks q ≡ s.blocks q) → EndStands c.instrs p s'.word k (stop e (s.thread k)) e (at_frame values (at_op to op place rest value) outer below) → s'.thread k ≡ stop e (s.thread k) → Simulation p c o s' w
        cut op e answer a at v none words blocks ends mine = (cut_next p c o s s' w S k n (at_frame values (at_op to op place rest value) outer below) is at.here e ends mine v.number words blocks (v.born ∙ nil_right s.born)
            (v.prints ∙ ap (λ (l : List ℕ). s.prints ++ l) none ∙ nil_right s.prints) v.others)

        still : (op : Op) (e : End) → AtCommand c s w k n values to op place rest value outer below → StandsRunning c.instrs (stop e (s.thread k)) (at_frame values (at_op to op place rest value) outer below)
        still op e at = let r = running_at c s w k n values to op place rest value outer below at in
            record { top = r.top; below = r.below; is = r.is; frames = record { regs = r.frames.regs; place = r.frames.place; under = r.frames.under } }

        by_op : (op : Op) → AtCommand c s w k n values to op place rest value outer below → (answer : Answer) → EventAt c o s k answer s' Taking (Some (instr place (act_of (s.thread k).at to op))) → KeptAt p c o s s' w k Taking (Some (instr place (act_of (s.thread k).at to op))) answer
        by_op (Take_op x y) at (Saw m) e = step_is (clear_next p c o s s' w S safe k n values to place rest value outer below x y m at fine e)
        by_op (Take_op x y) at Quiet e = cut (Take_op x y) ending.Spent Quiet (Take to x y) at e (quiet_prints (ask_at c o k (s.thread k) Taking (Some (instr place (Take to x y))))) e.words e.blocks (still (Take_op x y) ending.Spent at) e.mine
        by_op (Take_op x y) at Missed e = absurd (counted_not Missed o (s.thread k) _ (λ h. h) (placed_not Missed o _ _ (λ h. h) (λ h. h)) e.may)
        by_op (Take_op x y) at Refused e = cut (Take_op x y) ending.Memory Refused (Take to x y) at e (refused_prints (ask_at c o k (s.thread k) Taking (Some (instr place (Take to x y))))) e.words e.blocks (inl (still (Take_op x y) ending.Memory at)) e.mine
        by_op op at answer e = absurd (nothing answer e.may)

    -- thread k is inside a command that starts a thread
    at_spawning : (op : Op) (j i : ℕ) (answer : Answer) → AtCommand c s w k n values to op place rest value outer below → ThreadIsFine p w n → Event c o s k answer s' → (s.thread k).stage ≡ Spawning j i → Kept p c o s s' w k answer
    at_spawning op j i answer at fine v st = here_kept p c o s s' w k answer (Spawning j i) (Some (instr place (act_of (s.thread k).at to op))) st there (by_op op at answer (event_at c o s k answer s' (Spawning j i) (Some (instr place (act_of (s.thread k).at to op))) v st there))
      where
        there : slice_get c.instrs (s.thread k).at ≡ Some (instr place (act_of (s.thread k).at to op))
        there = head_act c.instrs (s.thread k).at to place op (head_of c.instrs (length (s.thread k).regs) (s.thread k).at (The_command to op place) rest value outer at.stands).0

        cut : (op : Op) (e : End) (answer : Answer) (a : Act) → AtCommand c s w k n values to op place rest value outer below → EventAt c o s k answer s' (Spawning j i) (Some (instr place a)) → s'.born ≡ s.born → printed (ask_at c o k (s.thread k) (Spawning j i) (Some (instr place a))) answer ≡ []
            → ((q : ℕ) → s'.word q ≡ s.word q) → ((q : ℕ) → s'.blocks q ≡ s.blocks q) → EndStands c.instrs p s'.word k (stop e (s.thread k)) e (at_frame values (at_op to op place rest value) outer below) → s'.thread k ≡ stop e (s.thread k) → Simulation p c o s' w
        cut op e answer a at v born none words blocks ends mine = (cut_next p c o s s' w S k n (at_frame values (at_op to op place rest value) outer below) is at.here e ends mine v.number words blocks born
            (v.prints ∙ ap (λ (l : List ℕ). s.prints ++ l) none ∙ nil_right s.prints) v.others)

        still : (op : Op) (e : End) → AtCommand c s w k n values to op place rest value outer below → StandsRunning c.instrs (stop e (s.thread k)) (at_frame values (at_op to op place rest value) outer below)
        still op e at = let r = running_at c s w k n values to op place rest value outer below at in
            record { top = r.top; below = r.below; is = r.is; frames = record { regs = r.frames.regs; place = r.frames.place; under = r.frames.under } }

        by_op : (op : Op) → AtCommand c s w k n values to op place rest value outer below → (answer : Answer) → EventAt c o s k answer s' (Spawning j i) (Some (instr place (act_of (s.thread k).at to op))) → KeptAt p c o s s' w k (Spawning j i) (Some (instr place (act_of (s.thread k).at to op))) answer
        by_op (Spawn_op callee arg) at (Saw m) e = (spawn_stores p c coded o limited s s' w S k n values to place rest value outer below callee arg at fine j i m e)
        by_op (Spawn_op callee arg) at Quiet e = cut (Spawn_op callee arg) ending.Spent Quiet (Spawn to callee arg) at e (e.born ∙ nil_right s.born) (quiet_prints (ask_at c o k (s.thread k) (Spawning j i) (Some (instr place (Spawn to callee arg))))) e.words e.blocks (still (Spawn_op callee arg) ending.Spent at) e.mine
        by_op (Spawn_op callee arg) at Missed e = absurd (counted_not Missed o (s.thread k) _ (λ h. h) (spawn_missed (s.thread k) callee arg j i) e.may)
        by_op (Spawn_op callee arg) at Refused e = cut (Spawn_op callee arg) ending.Memory Refused (Spawn to callee arg) at e (e.born ∙ nil_right s.born) (refused_prints (ask_at c o k (s.thread k) (Spawning j i) (Some (instr place (Spawn to callee arg))))) e.words e.blocks (inl (still (Spawn_op callee arg) ending.Memory at)) e.mine
        by_op op at answer e = absurd (nothing answer e.may)

  -- thread k stands at the end of a body
  at_end : (values : Environment) (value : ℕ) (outer : List Level) (below : List Suspended) (answer : Answer) → AtEnd c s w k n values value outer below → Event c o s k answer s' → (s.thread k).stage ≡ Ready → Kept p c o s s' w k answer
  at_end values value (level ∷ outer) below answer at v st =
      let b = branch_end_place c.instrs (length (s.thread k).regs) (s.thread k).at value level outer at.stands in
      here_kept p c o s s' w k answer Ready (Some (instr b.place (Copy level.to value))) st b.copy (at_local values level.to b.place [] value outer below (Copy level.to value) refl
      (λ e. (n, is, branch_end_next p c o s s' w S k n values value b.place below level outer b.place at e)) answer (event_at c o s k answer s' Ready (Some (instr b.place (Copy level.to value))) v st b.copy))
  at_end values value [] (waiting ∷ below) answer at v st =
      let r = return_place c.instrs (length (s.thread k).regs) (s.thread k).at value at.stands in
      here_kept p c o s s' w k answer Ready (Some (instr r.0 (Return value))) st r.1 (at_local values 0 r.0 [] value [] below (Return value) refl
      (λ e. (n, is, return_next p c o s s' w S k n values value r.0 below waiting at e)) answer (event_at c o s k answer s' Ready (Some (instr r.0 (Return value))) v st r.1))
  at_end values value [] [] answer at v st =
      let r = return_place c.instrs (length (s.thread k).regs) (s.thread k).at value at.stands in
      here_kept p c o s s' w k answer Ready (Some (instr r.0 (Return value))) st r.1 (at_local values 0 r.0 [] value [] [] (Return value) refl
      (λ e. (n, is, done_next p c o s s' w S k n values value r.0 [] at e)) answer (event_at c o s k answer s' Ready (Some (instr r.0 (Return value))) v st r.1))

  -- thread k runs
  at_ready : (values : Environment) (commands : List Command) (value : ℕ) (outer : List Level) (below : List Suspended) (answer : Answer) → slice_get w.threads n ≡ Some (at_frame values (remaining commands value) outer below) → RegistersAgree values (s.thread k).regs
      → ComesTo c.instrs (length (s.thread k).regs) (s.thread k).at (remaining commands value) outer → WaitingStand c.instrs (s.thread k).below below → ThreadIsFine p w n → Event c o s k answer s' → (s.thread k).stage ≡ Ready → Kept p c o s s' w k answer
  at_ready values (The_command to op place ∷ rest) value outer below answer here regs (Comes_here stands) under fine v st =
      at_command values to place rest value outer below op answer (record { is = is; here = here; regs = regs; stands = stands; under = under }) fine v st
  at_ready values [] value outer below answer here regs (Comes_here stands) under fine v st =
      at_end values value outer below answer (record { is = is; here = here; regs = regs; stands = stands; under = under }) v st
  at_ready values commands value outer below answer here regs (Comes_by_jump end place found stands) under fine v st =
      here_kept p c o s s' w k answer Ready (Some (instr place (Jump end))) st found (at_local values 0 place [] 0 outer below (Jump end) refl
      (λ e. (jump_next p c o s s' w S k n (at_frame values (remaining commands value) outer below) is here place end (frame_at values (remaining commands value) outer) below refl regs stands under e)) answer
      (event_at c o s k answer s' Ready (Some (instr place (Jump end))) v st found))

  making_runs : (values : Environment) (commands : List Command) (value : ℕ) (outer : List Level) (below : List Suspended) (b y : ℕ) (answer : Answer) → slice_get w.threads n ≡ Some (at_frame values (remaining commands value) outer below) → RegistersAgree values (s.thread k).regs
      → ComesTo c.instrs (length (s.thread k).regs) (s.thread k).at (remaining commands value) outer → WaitingStand c.instrs (s.thread k).below below → ThreadIsFine p w n → Event c o s k answer s' → (s.thread k).stage ≡ Making b y → Kept p c o s s' w k answer
  making_runs values (The_command to op place ∷ rest) value outer below b y answer here regs (Comes_here stands) under fine v st =
      at_making values to place rest value outer below op b y answer (record { is = is; here = here; regs = regs; stands = stands; under = under }) fine v st
  making_runs values [] value (level ∷ outer) below b y answer here regs (Comes_here stands) under fine v st =
      let q = branch_end_place c.instrs (length (s.thread k).regs) (s.thread k).at value level outer stands in
      absurd (nothing answer (event_at c o s k answer s' (Making b y) (Some (instr q.place (Copy level.to value))) v st q.copy).may)
  making_runs values [] value [] below b y answer here regs (Comes_here stands) under fine v st =
      let r = return_place c.instrs (length (s.thread k).regs) (s.thread k).at value stands in
      absurd (nothing answer (event_at c o s k answer s' (Making b y) (Some (instr r.0 (Return value))) v st r.1).may)
  making_runs values commands value outer below b y answer here regs (Comes_by_jump end place found stands) under fine v st =
      absurd (nothing answer (event_at c o s k answer s' (Making b y) (Some (instr place (Jump end))) v st found).may)

  taking_runs : (values : Environment) (commands : List Command) (value : ℕ) (outer : List Level) (below : List Suspended) (answer : Answer) → slice_get w.threads n ≡ Some (at_frame values (remaining commands value) outer below) → RegistersAgree values (s.thread k).regs
      → ComesTo c.instrs (length (s.thread k).regs) (s.thread k).at (remaining commands value) outer → WaitingStand c.instrs (s.thread k).below below → ThreadIsFine p w n → Event c o s k answer s' → (s.thread k).stage ≡ Taking → Kept p c o s s' w k answer
  taking_runs values (The_command to op place ∷ rest) value outer below answer here regs (Comes_here stands) under fine v st =
      at_taking values to place rest value outer below op answer (record { is = is; here = here; regs = regs; stands = stands; under = under }) fine v st
  taking_runs values [] value (level ∷ outer) below answer here regs (Comes_here stands) under fine v st =
      let q = branch_end_place c.instrs (length (s.thread k).regs) (s.thread k).at value level outer stands in
      absurd (nothing answer (event_at c o s k answer s' Taking (Some (instr q.place (Copy level.to value))) v st q.copy).may)
  taking_runs values [] value [] below answer here regs (Comes_here stands) under fine v st =
      let r = return_place c.instrs (length (s.thread k).regs) (s.thread k).at value stands in
      absurd (nothing answer (event_at c o s k answer s' Taking (Some (instr r.0 (Return value))) v st r.1).may)
  taking_runs values commands value outer below answer here regs (Comes_by_jump end place found stands) under fine v st =
      absurd (nothing answer (event_at c o s k answer s' Taking (Some (instr place (Jump end))) v st found).may)

  spawning_runs : (values : Environment) (commands : List Command) (value : ℕ) (outer : List Level) (below : List Suspended) (j i : ℕ) (answer : Answer) → slice_get w.threads n ≡ Some (at_frame values (remaining commands value) outer below) → RegistersAgree values (s.thread k).regs
      → ComesTo c.instrs (length (s.thread k).regs) (s.thread k).at (remaining commands value) outer → WaitingStand c.instrs (s.thread k).below below → ThreadIsFine p w n → Event c o s k answer s' → (s.thread k).stage ≡ Spawning j i → Kept p c o s s' w k answer
  spawning_runs values (The_command to op place ∷ rest) value outer below j i answer here regs (Comes_here stands) under fine v st =
      at_spawning values to place rest value outer below op j i answer (record { is = is; here = here; regs = regs; stands = stands; under = under }) fine v st
  spawning_runs values [] value (level ∷ outer) below j i answer here regs (Comes_here stands) under fine v st =
      let q = branch_end_place c.instrs (length (s.thread k).regs) (s.thread k).at value level outer stands in
      absurd (nothing answer (event_at c o s k answer s' (Spawning j i) (Some (instr q.place (Copy level.to value))) v st q.copy).may)
  spawning_runs values [] value [] below j i answer here regs (Comes_here stands) under fine v st =
      let r = return_place c.instrs (length (s.thread k).regs) (s.thread k).at value stands in
      absurd (nothing answer (event_at c o s k answer s' (Spawning j i) (Some (instr r.0 (Return value))) v st r.1).may)
  spawning_runs values commands value outer below j i answer here regs (Comes_by_jump end place found stands) under fine v st =
      absurd (nothing answer (event_at c o s k answer s' (Spawning j i) (Some (instr place (Jump end))) v st found).may)

  -- the look at STOP
  at_border : (u : Thread) (answer : Answer) → slice_get w.threads n ≡ Some u → StandsRunning c.instrs (s.thread k) u → Event c o s k answer s' → (s.thread k).stage ≡ Border → Kept p c o s s' w k answer
  at_border u answer here r v st = here_kept p c o s s' w k answer Border (slice_get c.instrs (s.thread k).at) st refl (by_found (slice_get c.instrs (s.thread k).at) refl answer v)
    where
      by_found : (a : Option Instr) → slice_get c.instrs (s.thread k).at ≡ a → (answer : Answer) → Event c o s k answer s' → Simulation p c o s' w
      by_found None q answer v = absurd (nothing answer (event_at c o s k answer s' Border None v st q).may)
      by_found (Some i) q Quiet v = (look_next p c o s s' w S k n u is here i r (event_at c o s k Quiet s' Border (Some i) v st q))
      by_found (Some i) q (Saw m) v = (halt_next p c o s s' w S k n u is here i m r (event_at c o s k (Saw m) s' Border (Some i) v st q))
      by_found (Some i) q Missed v = absurd (event_at c o s k Missed s' Border (Some i) v st q).may
      by_found (Some i) q Refused v = absurd (event_at c o s k Refused s' Border (Some i) v st q).may

  -- by how far thread k is
  by_stage : (u : Thread) (answer : Answer) (stage : Stage) → slice_get w.threads n ≡ Some u → StageStands c.instrs p s.word k (s.thread k) stage u → Event c o s k answer s' → (s.thread k).stage ≡ stage
      → ((stage ≡ Idle) ⊎ ((stage ≡ IdleStop) ⊎ (stage ≡ IdleLive)) → Simulation p c o s' w) → Kept p c o s s' w k answer
  by_stage u answer Idle here q v st idle = here_kept p c o s s' w k answer Idle (slice_get c.instrs (s.thread k).at) st refl (idle (inl refl))
  by_stage u answer IdleStop here q v st idle = here_kept p c o s s' w k answer IdleStop (slice_get c.instrs (s.thread k).at) st refl (idle (inr (inl refl)))
  by_stage u answer IdleLive here q v st idle = here_kept p c o s s' w k answer IdleLive (slice_get c.instrs (s.thread k).at) st refl (idle (inr (inr refl)))
  by_stage u (Saw m) LoadFun here q v st idle = here_kept p c o s s' w k (Saw m) LoadFun (slice_get c.instrs (s.thread k).at) st refl (fun_next p c coded o s s' w S k n u is here m _ q (event_at c o s k (Saw m) s' LoadFun (slice_get c.instrs (s.thread k).at) v st refl))
  by_stage u (Saw m) (LoadArg f) here q v st idle = here_kept p c o s s' w k (Saw m) (LoadArg f) (slice_get c.instrs (s.thread k).at) st refl (arg_next p c coded o s s' w S k n u is here f m _ q.0 q.1 (event_at c o s k (Saw m) s' (LoadArg f) (slice_get c.instrs (s.thread k).at) v st refl))
  by_stage u Quiet (Entering f arg) here q v st idle = here_kept p c o s s' w k Quiet (Entering f arg) (slice_get c.instrs (s.thread k).at) st refl (enter_next p c coded o s s' w S k n u is here f arg _ q.0 q.1 q.2 (event_at c o s k Quiet s' (Entering f arg) (slice_get c.instrs (s.thread k).at) v st refl))
  by_stage u answer Border here r v st idle = at_border u answer here r v st
  by_stage u answer Ready here r v st idle =
      at_ready r.top.env r.top.rest.commands r.top.rest.value r.top.outer r.below answer (here ∙ ap Some r.is) r.frames.regs r.frames.place r.frames.under (safe.goes_on n r.top r.below (here ∙ ap Some r.is)) v st
  by_stage u answer (Making b y) here r v st idle =
      making_runs r.top.env r.top.rest.commands r.top.rest.value r.top.outer r.below b y answer (here ∙ ap Some r.is) r.frames.regs r.frames.place r.frames.under (safe.goes_on n r.top r.below (here ∙ ap Some r.is)) v st
  by_stage u answer Taking here r v st idle =
      taking_runs r.top.env r.top.rest.commands r.top.rest.value r.top.outer r.below answer (here ∙ ap Some r.is) r.frames.regs r.frames.place r.frames.under (safe.goes_on n r.top r.below (here ∙ ap Some r.is)) v st
  by_stage u answer (Spawning j i) here r v st idle =
      spawning_runs r.top.env r.top.rest.commands r.top.rest.value r.top.outer r.below j i answer (here ∙ ap Some r.is) r.frames.regs r.frames.place r.frames.under (safe.goes_on n r.top r.below (here ∙ ap Some r.is)) v st
  by_stage u answer Unmatched here q v st idle = absurd q
  by_stage u (Saw m) (Closing e) here q v st idle = here_kept p c o s s' w k (Saw m) (Closing e) (slice_get c.instrs (s.thread k).at) st refl (close_next p c o s s' w S k n u is here e m _ q (event_at c o s k (Saw m) s' (Closing e) (slice_get c.instrs (s.thread k).at) v st refl))
  by_stage u answer (Over e) here q v st idle = absurd (nothing answer (event_at c o s k answer s' (Over e) (slice_get c.instrs (s.thread k).at) v st refl).may)
  by_stage u Quiet LoadFun here q v st idle = absurd (event_at c o s k Quiet s' LoadFun (slice_get c.instrs (s.thread k).at) v st refl).may
  by_stage u Missed LoadFun here q v st idle = absurd (event_at c o s k Missed s' LoadFun (slice_get c.instrs (s.thread k).at) v st refl).may
  by_stage u Refused LoadFun here q v st idle = absurd (event_at c o s k Refused s' LoadFun (slice_get c.instrs (s.thread k).at) v st refl).may
  by_stage u Quiet (LoadArg f) here q v st idle = absurd (event_at c o s k Quiet s' (LoadArg f) (slice_get c.instrs (s.thread k).at) v st refl).may
  by_stage u Missed (LoadArg f) here q v st idle = absurd (event_at c o s k Missed s' (LoadArg f) (slice_get c.instrs (s.thread k).at) v st refl).may
  by_stage u Refused (LoadArg f) here q v st idle = absurd (event_at c o s k Refused s' (LoadArg f) (slice_get c.instrs (s.thread k).at) v st refl).may
  by_stage u (Saw m) (Entering f arg) here q v st idle = absurd (frame_not (Saw m) (λ h. h) (λ x h. h) (callee_of c f (first_params k)) (event_at c o s k (Saw m) s' (Entering f arg) (slice_get c.instrs (s.thread k).at) v st refl).may)
  by_stage u Missed (Entering f arg) here q v st idle = absurd (frame_not Missed (λ h. h) (λ x h. h) (callee_of c f (first_params k)) (event_at c o s k Missed s' (Entering f arg) (slice_get c.instrs (s.thread k).at) v st refl).may)
  by_stage u Refused (Entering f arg) here q v st idle =
      let e = event_at c o s k Refused s' (Entering f arg) (slice_get c.instrs (s.thread k).at) v st refl in
      here_kept p c o s s' w k Refused (Entering f arg) (slice_get c.instrs (s.thread k).at) st refl (cut_next p c o s s' w S k n u is here ending.Memory (inr (waiting_words p s.word s'.word k u (λ x h. e.words x) q.0)) e.mine e.number e.words e.blocks (e.born ∙ nil_right s.born)
      (e.prints ∙ ap (λ (l : List ℕ). s.prints ++ l) (refused_prints (ask_at c o k (s.thread k) (Entering f arg) (slice_get c.instrs (s.thread k).at))) ∙ nil_right s.prints) e.others)
  by_stage u Quiet (Closing x) here q v st idle = absurd (closing_not Quiet x (λ h. h) (λ h. h) (event_at c o s k Quiet s' (Closing x) (slice_get c.instrs (s.thread k).at) v st refl).may)
  by_stage u Missed (Closing x) here q v st idle = absurd (closing_not Missed x (λ h. h) (λ h. h) (event_at c o s k Missed s' (Closing x) (slice_get c.instrs (s.thread k).at) v st refl).may)
  by_stage u Refused (Closing x) here q v st idle = absurd (closing_not Refused x (λ h. h) (λ h. h) (event_at c o s k Refused s' (Closing x) (slice_get c.instrs (s.thread k).at) v st refl).may)

-- an event keeps what is kept: the named run makes the step that it gives, of its thread, or none
pub keeps : (p : Program) (c : Code) (coded : Coded p c) (o : Options) (limited : Limited o) (s s' : Raw) (w : Config) (S : Simulation p c o s w) (safe : IsFine p w) (k : ℕ) (answer : Answer) → Event c o s k answer s' → Kept p c o s s' w k answer
keeps p c coded o limited s s' w S safe k answer v = elim (find_in s.born k) [
  | inl q ↦ (let there = S.stands.threads q.0 k q.1 in
      by_stage p c coded o limited s s' w S safe k q.0 q.1 there.thread answer (s.thread k).stage there.here there.stands v refl
      (λ h. idle_born p c o s s' w S k q.0 there.thread q.1 there.here answer (s.thread k).stage refl there.stands v h))
  | inr q ↦ kept_as p c o s s' w k (gives_step c o s k answer) false (dormant_gives c o (s.thread k) (s.thread k).stage (slice_get c.instrs (s.thread k).at) answer (S.dormant k q))
      (idle_unborn p c o s s' w S k q answer (s.thread k).stage refl (S.dormant k q) v)
]
