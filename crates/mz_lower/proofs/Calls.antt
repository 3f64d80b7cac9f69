-- Calls, and the first frame of a thread.
use Rattle.std.proofs.Common.{◌≡◌, ◌≤◌, ◌==◌, ℕ, zero, suc, ◌+◌, ◌*◌, ◌-◌, List, [], ◌∷◌, ◌++◌, length, map, Option, Some, None, Bool, true, false, leb, refl, sym, ap, ◌∙◌, subst, arith, eq-eqb, length-append}
use Rattle.std.proofs.lemmas.List.{length-map}
use Rattle.std.proofs.lemmas.Bool.{leb-false}
use Rattle.std.specs.Prelude.{slice_get, slice_index_or, if◌then◌else◌}
use Rattle.mz_tree.specs.declared.types.Place.{Place}
use Rattle.mz_tree.specs.Code.{Call_op, The_command, Command}
use Rattle.mz_tree.specs.Programs.{Program, Fun, Sig}
use Rattle.mz_words.specs.declared.code.Act.TheVariants.{Call}
use Rattle.mz_words.specs.declared.code.Instr.{Instr}
use Rattle.mz_words.specs.declared.code.Start.{Start}
use Rattle.mz_words.specs.declared.code.Code.{Code}
use Rattle.mz_words.specs.declared.options.Options.{Options}
use Rattle.mz_words.specs.declared.ends.End.TheVariants as ending
use Rattle.mz_words.specs.declared.asks.Ask.TheVariants.{Local, Frames}
use Rattle.mz_words.specs.declared.asks.Answer.TheVariants.{Saw, Quiet}
use Rattle.mz_words.specs.declared.stages.Stage.TheVariants.{Border, Ready, LoadFun, LoadArg, Entering}
use Rattle.mz_words.specs.Standing.{Standing}
use Rattle.mz_words.specs.Steps.{reg, zeros, frame_of, fits, callee_of, is_full, counted, ask_call, ask_act, take_quiet, take_frame, calls, stop, enters, first_params, ask_frame}
use Rattle.mz_words.specs.Raw.{Raw}
use Rattle.mz_named.specs.Machine.{Value, Config, Thread, Running, Environment, Level, Suspended, IsFunction, Step_calls, start, rest_of, value_at}
use Rattle.mz_lower.specs.Layout.{instr, params_in, start_of}
use Rattle.mz_lower.specs.NamedRuns.{quiet_gives}
use Rattle.mz_lower.specs.Addresses.{BindsBelow, StandsAt}
use Rattle.mz_lower.specs.StandsFor.{raw_value, RegistersAgree, Comes_here, StandsRunning, One_waits, None_wait, StandsBeforeStart, ThreadStands}
use Rattle.mz_lower.proofs.Addresses.{remaining, if_true, if_false, head_of, FunPlace, body_stands}
use Rattle.mz_lower.proofs.Simulation.{Simulation, EventAt}
use Rattle.mz_lower.proofs.CanDo.{ThreadIsFine, CanDo, Can_act, Can_stop, Can_wait, Can_choose, Can_call, Can_spawn, fine_can}
use Rattle.mz_lower.proofs.Binding.{nil_right, AtCommand, frame_at, at_frame, moves_on, at_op, next_of, goes_with, rests_with, gone}
use Rattle.mz_lower.proofs.LocalActs.{KeptAs, kept_as, cut_next, quiet_prints}
use Rattle.mz_lower.proofs.Loads.{same_either}
use Rattle.mz_lower.proofs.NewBlocks.{values_read, running_at}

-- the code is that of the program, whose names fit their registers
pub record Coded (p : Program) (c : Code) : Type 0 where
  pub place : (f : ℕ) (fun : Fun) → slice_get p.funs f ≡ Some fun → FunPlace c.instrs c.entries p.sigs f fun
  pub binds : (f : ℕ) (fun : Fun) → slice_get p.funs f ≡ Some fun → BindsBelow (length fun.spelling) fun.body
  pub room : (f : ℕ) (fun : Fun) (sig : Sig) → slice_get p.funs f ≡ Some fun → slice_get p.sigs fun.sig ≡ Some sig → sig.count ≤ length fun.spelling

-- where a function of the program begins
pub record Begins (c : Code) (f count : ℕ) (fun : Fun) : Type 0 where
  pub start : Start
  pub found : callee_of c f count ≡ Some start
  pub stands : StandsAt c.instrs start.registers start.first (rest_of fun.body) []
  pub room : count ≤ start.registers

-- a function of the program begins in the code with as many parameters
pub begins : (p : Program) (c : Code) → Coded p c → (callee : Value) (count : ℕ) (q : IsFunction p callee count) → Begins c q.number count q.fun
begins p c coded callee count q =
    let there = coded.place q.number q.fun q.declared in
    let many : params_in (slice_get p.sigs q.fun.sig) ≡ count = ap params_in q.signed ∙ q.many in
    record {
      start = start_of p.sigs there.first q.fun;
      found = ap (fits count) there.found ∙ if_true (params_in (slice_get p.sigs q.fun.sig) == count) (eq-eqb _ _ many) (Some (start_of p.sigs there.first q.fun)) None;
      stands = body_stands c.instrs c.entries p.sigs q.number q.fun there (coded.binds q.number q.fun q.declared);
      room = subst (λ x. x ≤ length q.fun.spelling) q.many (coded.room q.number q.fun q.sig q.declared q.signed);
    }

zeros_long : (n : ℕ) → length (zeros n) ≡ n
zeros_long zero = refl
zeros_long (suc n) = ap suc (zeros_long n)

-- a new frame has the registers of its function
pub frame_long : (args : List ℕ) (s : Start) → length args ≤ s.registers → length (frame_of args s) ≡ s.registers
frame_long args s l = length-append args (zeros (s.registers - length args)) ∙ omega (arith, l, zeros_long (s.registers - length args))

zeros_read : (n m : ℕ) → slice_index_or (zeros n) m 0 ≡ 0
zeros_read zero m = refl
zeros_read (suc n) zero = refl
zeros_read (suc n) (suc m) = zeros_read n m

-- its first registers are the arguments, and the others 0
pub params_read : (vs : List Value) (n m : ℕ) → slice_index_or (map raw_value vs ++ zeros n) m 0 ≡ raw_value (value_at vs m)
params_read [] n m = zeros_read n m
params_read (u ∷ vs) n zero = refl
params_read (u ∷ vs) n (suc m) = params_read vs n m

-- the frame of a function whose parameters have these values
pub frame_agrees : (vs : List Value) (args : List ℕ) (s : Start) → args ≡ map raw_value vs → RegistersAgree (value_at vs) (frame_of args s)
frame_agrees vs args s e = record { agree = λ m. ap (λ (l : List ℕ). slice_index_or (l ++ zeros (s.registers - length args)) m 0) e ∙ params_read vs (s.registers - length args) m }

-- what a Call does quietly: its units are spent, the stack is full, or the frame is made
call_by : (c : Code) (o : Options) (t : Standing) (place : Place) (to callee : ℕ) (args : List ℕ) (registers : ℕ) (b1 b2 : Bool) → leb o.steps t.units ≡ b1
    → take_quiet c o t (instr place (Call to callee args)) (if b1 then Local else (if b2 then Local else Frames registers))
    ≡ (if b1 then stop ending.Spent t else (if b2 then stop (ending.StackFull place) t else take_frame c t (Call to callee args)))
call_by c o t place to callee args registers true b2 e = if_true (leb o.steps t.units) e (stop ending.Spent t) (stop (ending.StackFull place) t)
call_by c o t place to callee args registers false true e = if_false (leb o.steps t.units) e (stop ending.Spent t) (stop (ending.StackFull place) t)
call_by c o t place to callee args registers false false e = refl

by_two : {A : Type 0} (F : Type 0) (b1 b2 : Bool) (x y v z : A) → z ≡ (if b1 then x else (if b2 then y else v)) → (b1 ≡ true → z ≡ x → F) → (b1 ≡ false → b2 ≡ true → z ≡ y → F) → (b1 ≡ false → b2 ≡ false → z ≡ v → F) → F
by_two F true b2 x y v z e f g h = f refl e
by_two F false true x y v z e f g h = g refl refl e
by_two F false false x y v z e f g h = h refl refl e

module _ (p : Program) (c : Code) (coded : Coded p c) (o : Options) (s s' : Raw) (w : Config) (S : Simulation p c o s w) (k n : ℕ) (values : Environment) (to : ℕ) (place : Place) (rest : List Command) (value : ℕ) (outer : List Level) (below : List Suspended) where
  -- a call is over, or full, or makes its frame, which is its named step
  pub call_next : (callee : ℕ) (args : List ℕ) → AtCommand c s w k n values to (Call_op callee args) place rest value outer below → ThreadIsFine p w n
      → EventAt c o s k Quiet s' Ready (Some (instr place (Call to callee args))) → KeptAs p c o s s' w k (quiet_gives (ask_act c o (s.thread k) (Call to callee args)) (Call to callee args))
  call_next callee args at fine e = by_can (fine_can p w n (next_of c s w k n values to (Call_op callee args) place rest value outer below at) fine)
    where
      t : Standing
      t = s.thread k

      u0 : Thread
      u0 = at_frame values (at_op to (Call_op callee args) place rest value) outer below

      by_can : CanDo p values (Call_op callee args) w.heap.at → KeptAs p c o s s' w k (quiet_gives (ask_act c o (s.thread k) (Call to callee args)) (Call to callee args))
      by_can (Can_act v at' out z) = absurd z
      by_can (Can_stop z) = absurd z
      by_can (Can_wait z) = absurd z
      by_can (Can_choose body z) = absurd z
      by_can (Can_spawn callee2 arg2 q2 g2) = absurd (cc)
      by_can (Can_call callee2 args2 z function2) = calls_it (subst (λ x. IsFunction p (values x) (length args)) (sym (callee_inj z)) (subst (λ (l : List ℕ). IsFunction p (values callee2) (length l)) (sym (args_inj z)) function2))
        where
          callee_inj : Call_op callee args ≡ Call_op callee2 args2 → callee ≡ callee2
          callee_inj q = cc

          args_inj : Call_op callee args ≡ Call_op callee2 args2 → args ≡ args2
          args_inj q = cc

          calls_it : IsFunction p (values callee) (length args) → KeptAs p c o s s' w k (quiet_gives (ask_act c o (s.thread k) (Call to callee args)) (Call to callee args))
          calls_it function = by_two (KeptAs p c o s s' w k (quiet_gives (ask_act c o (s.thread k) (Call to callee args)) (Call to callee args))) (leb o.steps t.units) (is_full t b.start) _ _ _ (s'.thread k) outcome
              (λ b1 q. kept_as p c o s s' w k _ false (named true (is_full t b.start) b1 refl) (cut_next p c o s s' w S k n u0 at.is at.here ending.Spent (record { top = run.top; below = run.below; is = run.is; frames = record { regs = run.frames.regs; place = run.frames.place; under = run.frames.under } }) q e.number e.words e.blocks (e.born ∙ nil_right s.born) prints_same e.others))
              (λ b1 b2 q. kept_as p c o s s' w k _ false (named false true b1 b2) (cut_next p c o s s' w S k n u0 at.is at.here (ending.StackFull place) (record { top = run.top; below = run.below; is = run.is; frames = record { regs = run.frames.regs; place = run.frames.place; under = run.frames.under } }) q e.number e.words e.blocks (e.born ∙ nil_right s.born) prints_same e.others))
              (λ some b2 q. kept_as p c o s s' w k _ true (named false false some b2) (
                n,
                at.is,
                (
                  gone p c o s s' w S k n e.number (λ q h. e.words q) e.blocks (e.born ∙ nil_right s.born) prints_same e.others at.is u0 u at.here t' 1 (q ∙ made) refl (within some) stands (λ w2 h. tt),
                  Step_calls _ below _ rest callee args (next_of c s w k n values to (Call_op callee args) place rest value outer below at) refl function (moves_on w n u0 u at.here),
                  goes_with p c o s s' w S k n e.number (λ q h. e.words q) e.blocks (e.born ∙ nil_right s.born) prints_same e.others at.is u0 u at.here t' 1 (q ∙ made) refl (within some) stands (λ w2 h. tt),
                ),
              ))
            where
              b : Begins c function.number (length args) function.fun
              b = begins p c coded (values callee) (length args) function

              run : StandsRunning c.instrs t u0
              run = running_at c s w k n values to (Call_op callee args) place rest value outer below at

              same : callee_of c (reg t callee) (length args) ≡ Some b.start
              same = ap (λ x. callee_of c x (length args)) (at.regs.agree callee ∙ ap raw_value function.is) ∙ b.found

              prints_same : s'.prints ≡ s.prints
              prints_same = e.prints ∙ ap (λ (l : List ℕ). s.prints ++ l) (quiet_prints (ask_act c o t (Call to callee args))) ∙ nil_right s.prints

              outcome : s'.thread k ≡ (if leb o.steps t.units then stop ending.Spent t else (if is_full t b.start then stop (ending.StackFull place) t else take_frame c t (Call to callee args)))
              outcome = e.mine ∙ ap (λ (x : Option Start). take_quiet c o t (instr place (Call to callee args)) (counted o t (ask_call t x))) same
                  ∙ call_by c o t place to callee args b.start.registers (leb o.steps t.units) (is_full t b.start) refl

              -- whether the quiet answer makes the frame
              named : (b1 b2 : Bool) → leb o.steps t.units ≡ b1 → is_full t b.start ≡ b2 → quiet_gives (ask_act c o t (Call to callee args)) (Call to callee args) ≡ quiet_gives (if b1 then Local else (if b2 then Local else Frames b.start.registers)) (Call to callee args)
              named b1 b2 e1 e2 = ap (λ (x : Option Start). quiet_gives (counted o t (ask_call t x)) (Call to callee args)) same
                  ∙ ap (λ z. quiet_gives (if z then Local else (if is_full t b.start then Local else Frames b.start.registers)) (Call to callee args)) e1
                  ∙ ap (λ z. quiet_gives (if b1 then Local else (if z then Local else Frames b.start.registers)) (Call to callee args)) e2

              values_are : map (reg t) args ≡ map raw_value (map values args)
              values_are = values_read values t at.regs args

              few : length (map (reg t) args) ≤ b.start.registers
              few = subst (λ x. x ≤ b.start.registers) (sym (length-map args (reg t))) b.room

              u : Thread
              u = Running (start function.fun (map values args)) (record { to = to; frame = frame_at values (remaining rest value) outer } ∷ below)

              t' : Standing
              t' = record { at = b.start.first; regs = frame_of (map (reg t) args) b.start; below = record { at = t.at + 1; regs = t.regs; to = to } ∷ t.below; units = t.units + 1; lost = t.lost; stage = Border }

              made : take_frame c t (Call to callee args) ≡ t'
              made = ap (λ (x : Option Start). calls to args x t) same

              within : leb o.steps t.units ≡ false → t.units + 1 ≤ o.steps
              within q = omega (arith, leb-false o.steps t.units q)

              stands : ThreadStands c.instrs p s'.word k t' u
              stands =
                  let h = head_of c.instrs (length t.regs) t.at (The_command to (Call_op callee args) place) rest value outer at.stands in
                  record {
                    top = start function.fun (map values args);
                    below = record { to = to; frame = frame_at values (remaining rest value) outer } ∷ below;
                    is = refl;
                    frames = record {
                      regs = frame_agrees (map values args) (map (reg t) args) b.start values_are;
                      place = Comes_here (subst (λ m. StandsAt c.instrs m b.start.first (rest_of function.fun.body) []) (sym (frame_long (map (reg t) args) b.start few)) b.stands);
                      under = One_waits _ _ t.below below at.regs refl h.1.0 (Comes_here h.2) at.under;
                    };
                  }

args_by : (b : Bool) (args : List Value) (arg : ℕ) → length args ≡ (if b then 0 else 1) → ((v : Value) → slice_get args 0 ≡ Some v → arg ≡ raw_value v) → (if b then [] else arg ∷ []) ≡ map raw_value args
args_by true [] arg e h = refl
args_by true (v ∷ vs) arg e h = absurd (omega (arith, e))
args_by false [] arg e h = absurd (omega (arith, e))
args_by false (v ∷ []) arg e h = ap (λ x. x ∷ []) (h v refl)
args_by false (v ∷ u ∷ vs) arg e h = absurd (omega (arith, e))

-- a thread makes its first frame
module _ (p : Program) (c : Code) (coded : Coded p c) (o : Options) (s s' : Raw) (w : Config) (S : Simulation p c o s w) (k n : ℕ) (u : Thread) (is : slice_get s.born n ≡ Some k) (here : slice_get w.threads n ≡ Some u) where
  -- the first frame of a thread stands for the start of its function
  pub enter_next : (f arg : ℕ) (a : Option Instr) (q : StandsBeforeStart p s.word k u) → f ≡ raw_value q.callee → ((v : Value) → slice_get q.args 0 ≡ Some v → arg ≡ raw_value v)
      → EventAt c o s k Quiet s' (Entering f arg) a → Simulation p c o s' w
  enter_next f arg a q f_is arg_is e = rests_with p c o s s' w S k n e.number (λ x h. e.words x) e.blocks (e.born ∙ nil_right s.born)
      (e.prints ∙ ap (λ (l : List ℕ). s.prints ++ l) (quiet_prints (ask_frame (callee_of c f (first_params k)))) ∙ nil_right s.prints) e.others is u u here t' 0
      (e.mine ∙ ap (λ (x : Option Start). enters k arg x (s.thread k)) same) (omega arith) (S.units k) stands (λ w2 h. tt) refl
    where
      b : Begins c q.start.function.number q.start.takes q.start.function.fun
      b = begins p c coded q.callee q.start.takes q.start.function

      same : callee_of c f (first_params k) ≡ Some b.start
      same = ap (λ x. callee_of c x (first_params k)) (f_is ∙ ap raw_value q.start.function.is) ∙ ap (callee_of c q.start.function.number) (sym q.start.fits) ∙ b.found

      args : List ℕ
      args = if k == 0 then [] else arg ∷ []

      args_are : args ≡ map raw_value q.args
      args_are = args_by (k == 0) q.args arg q.start.few arg_is

      few : length args ≤ b.start.registers
      few = omega (arith, ap length args_are, length-map q.args raw_value, q.start.few, q.start.fits, b.room)

      t' : Standing
      t' = record { at = b.start.first; regs = frame_of args b.start; below = []; units = (s.thread k).units; lost = (s.thread k).lost; stage = Border }

      stands : ThreadStands c.instrs p s'.word k t' u
      stands = record {
        top = start q.start.function.fun q.args;
        below = [];
        is = q.start.is;
        frames = record {
          regs = frame_agrees q.args args b.start args_are;
          place = Comes_here (subst (λ m. StandsAt c.instrs m b.start.first (rest_of q.start.function.fun.body) []) (sym (frame_long args b.start few)) b.stands);
          under = None_wait;
        };
      }

  -- the looks of a thread that hasn't started, and its loads; the words stay
  wait_still : (q : StandsBeforeStart p s.word k u) → ((x : ℕ) → s'.word x ≡ s.word x) → StandsBeforeStart p s'.word k u
  wait_still q h = record { callee = q.callee; args = q.args; start = q.start; fun_word = h (6 + 3 * k) ∙ q.fun_word; arg_word = λ v e. h (7 + 3 * k) ∙ q.arg_word v e }

  -- the word FUN is the function that the named thread starts with
  pub fun_next : (m : ℕ) (a : Option Instr) → StandsBeforeStart p s.word k u → EventAt c o s k (Saw m) s' LoadFun a → Simulation p c o s' w
  unfolding wait_still
  fun_next m a q e = rests_with p c o s s' w S k n e.number (λ x h. same x) e.blocks (e.born ∙ nil_right s.born) (e.prints ∙ nil_right s.prints) e.others is u u here
      (record (s.thread k) { stage = LoadArg m }) 0 e.mine (omega arith) (S.units k) (wait_still q same, e.agrees ∙ q.fun_word) (λ w2 h. tt) refl
    where
      same : (x : ℕ) → s'.word x ≡ s.word x
      same x = e.words x ∙ same_either (6 + 3 * k == x) (s.word x)

  -- and the word ARG its argument
  pub arg_next : (f m : ℕ) (a : Option Instr) (q : StandsBeforeStart p s.word k u) → f ≡ raw_value q.callee → EventAt c o s k (Saw m) s' (LoadArg f) a → Simulation p c o s' w
  unfolding wait_still
  arg_next f m a q f_is e = rests_with p c o s s' w S k n e.number (λ x h. same x) e.blocks (e.born ∙ nil_right s.born) (e.prints ∙ nil_right s.prints) e.others is u u here
      (record (s.thread k) { stage = Entering f m }) 0 e.mine (omega arith) (S.units k) (wait_still q same, f_is, λ v h. e.agrees ∙ q.arg_word v h) (λ w2 h. tt) refl
    where
      same : (x : ℕ) → s'.word x ≡ s.word x
      same x = e.words x ∙ same_either (7 + 3 * k == x) (s.word x)
