-- A thread's step has one answer: what its next command is decides between them.
use Rattle.std.proofs.Common.{◌≡◌, ◌⊎◌, inl, inr, ℕ, true, false, List, [], ◌∷◌, length, Option, Some, None, refl, sym, ap, ◌∙◌, subst, slice_get, ◌<◌, arith}
use Rattle.std.proofs.lemmas.Option.{slice_get_within}
use Rattle.mz_tree.specs.Arithmetic.{computed}
use Rattle.mz_tree.specs.Code.{Op, Command, Body, Arith_op, Call_op, Take_op, Acquire_op, Spawn_op, op_of}
use Rattle.mz_tree.specs.Programs.{Program}
use Rattle.mz_named.specs.Machine.{Value, Int_value, Block_value, Cell, Block_cell, Lock_cell, Cells, Environment, Level, Frame, Suspended, Thread, Running, Ended, Stopped, Config, ComputesTo, TakesBlock, TakeFails, Acts, Stops, Chooses, IsAt, IsDone, NStep, Step_acts, Step_stops, Step_branches, Step_joins, Step_calls, Step_returns, Step_ends, Step_spawns, Waits}
use Rattle.mz_named.specs.Doing.{FailsArith, FailsTake}
use Rattle.mz_named.specs.Answering.{IsRunning, IsOver, IsWrong, StopsAtArith, StopsAtTake, GoesOn, EndsBy}
use Rattle.mz_named.specs.Laws.{AtMostOneAnswer}
use Rattle.mz_named.specs.declared.turn.NamedTurn.TheVariants as turn
use Rattle.mz_named.proofs.Inverting.{nil_cons, heads, same_frame, Can, Can_act, Can_stop, Can_branch, Can_call, Can_spawn, step_inv}
use Rattle.mz_named.proofs.Answering.{arith_stops, take_stops}

-- ---- what a slot of a list holds is one thing

running_ended : {o : Option Thread} {f : Frame} {below : List Suspended} → o ≡ Some (Running f below) → o ≡ Some Ended → ⊥
running_ended e g = cc

running_stopped : {o : Option Thread} {f : Frame} {below : List Suspended} → o ≡ Some (Running f below) → o ≡ Some Stopped → ⊥
running_stopped e g = cc

stopped_ended : {o : Option Thread} → o ≡ Some Stopped → o ≡ Some Ended → ⊥
stopped_ended e g = cc

pub same_below : {o : Option Thread} {f g : Frame} {below under : List Suspended} → o ≡ Some (Running f below) → o ≡ Some (Running g under) → below ≡ under
same_below e f = cc

no_over : {o : Option Thread} {f : Frame} {below : List Suspended} → o ≡ Some (Running f below) → (o ≡ Some Ended) ⊎ (o ≡ Some Stopped) → ⊥
no_over e (inl g) = running_ended e g
no_over e (inr g) = running_stopped e g

-- ---- what an operation does is of one kind

ints : {m n : ℕ} {v : Value} → v ≡ Int_value m → v ≡ Int_value n → m ≡ n
ints e f = cc

none_some : {o : Option ℕ} {n : ℕ} → o ≡ None → o ≡ Some n → ⊥
none_some e f = cc

blocks : {m n : ℕ} {v : Value} → v ≡ Block_value m → v ≡ Block_value n → m ≡ n
blocks e f = cc

holders : {o : Option Cell} {m n : ℕ} {one two : Option ℕ} {vs ws : List Value} → o ≡ Some (Block_cell m one vs) → o ≡ Some (Block_cell n two ws) → one ≡ two
holders e f = cc

computes_once : (e : Environment) (operator : _) (x y : ℕ) (n : ℕ) → ComputesTo (e x) (e y) operator (Some n) → ComputesTo (e x) (e y) operator None → ⊥
computes_once e operator x y n some none =
    let left : some.left ≡ none.left = ints some.is_left none.is_left in
    let right : some.right ≡ none.right = ints some.is_right none.is_right in
    none_some none.gives (subst (λ a. computed operator a none.right ≡ Some n) left (subst (λ b. computed operator some.left b ≡ Some n) right some.gives))

takes_once : (at at' : Cells) (e : Environment) (x y : ℕ) → TakesBlock at (e x) (e y) at' → TakeFails at (e x) (e y) → ⊥
takes_once at at' e x y takes fails =
    let block : takes.both.block ≡ fails.both.block = blocks takes.both.is_block fails.both.is_block in
    let adopter : takes.both.adopter ≡ fails.both.adopter = blocks takes.both.is_adopter fails.both.is_adopter in
    let held : takes.both.held_by ≡ fails.both.held_by = holders (subst (λ b. at b ≡ Some (Block_cell takes.both.con takes.both.held_by takes.both.fields)) block takes.both.made) fails.both.made in
    fails.not_its (sym held ∙ takes.its ∙ ap Some adopter)

-- an operation that acts doesn't stop its thread
pub acts_stops : (at at' : Cells) (e : Environment) (op : Op) (v : Value) (out : List ℕ) → Acts at e op v at' out → Stops at e op → ⊥
acts_stops at at' e (Arith_op operator x y) v out acts stops = computes_once e operator x y acts.0.0 acts.0.1 stops
acts_stops at at' e (Take_op x y) v out acts stops = takes_once at at' e x y acts.0 stops
acts_stops at at' e _ v out acts stops = absurd stops

pub chooses_stops : (at : Cells) (e : Environment) (op : Op) (body : Body) → Chooses at e op body → Stops at e op → ⊥
chooses_stops at e (Arith_op operator x y) body chooses stops = absurd chooses
chooses_stops at e (Take_op x y) body chooses stops = absurd chooses
chooses_stops at e _ body chooses stops = absurd stops

arith_takes : (at : Cells) (e : Environment) (op : Op) → FailsArith e op → FailsTake at e op → ⊥
arith_takes at e (Arith_op operator x y) arith takes = absurd takes
arith_takes at e (Take_op x y) arith takes = absurd arith
arith_takes at e _ arith takes = absurd arith

-- an acquire of a held lock has no step
held_free : {o : Option Cell} → o ≡ Some (Lock_cell true) → o ≡ Some (Lock_cell false) → ⊥
held_free e f = cc

acquires_not : {lock callee : ℕ} {args : List ℕ} → Acquire_op lock ≡ Call_op callee args → ⊥
acquires_not e = cc

acquires_no_spawn : {lock callee arg : ℕ} → Acquire_op lock ≡ Spawn_op callee arg → ⊥
acquires_no_spawn e = cc

-- ---- steps

module _ (p : Program) (w w' : Config) (k : ℕ) where
  -- whoever steps runs
  step_runs : NStep p w k w' → IsRunning w k
  step_runs (Step_acts f below c rest v e' out at acts prints binds puts) = record { frame = f; below = below; runs = at.here }
  step_runs (Step_stops f below c rest at stops moves) = record { frame = f; below = below; runs = at.here }
  step_runs (Step_branches f below c rest body at chooses moves) = record { frame = f; below = below; runs = at.here }
  step_runs (Step_joins f below level outer e' done out binds moves) = record { frame = f; below = below; runs = done.here }
  step_runs (Step_calls f below c rest callee args at is g moves) = record { frame = f; below = below; runs = at.here }
  step_runs (Step_returns f waiting below e' done out binds moves) = record { frame = f; below = waiting ∷ below; runs = done.here }
  step_runs (Step_ends f done out moves) = record { frame = f; below = []; runs = done.here }
  step_runs (Step_spawns f below c rest callee arg e' mid at is g binds heap prints one two) = record { frame = f; below = below; runs = at.here }

  -- a step from a command that stops the thread stops it
  module _ (f : Frame) (below : List Suspended) (c : Command) (rest : List Command) (at : IsAt w k f below c rest) (stops : Stops w.heap.at f.env (op_of c)) where
    here : (g : Frame) (under : List Suspended) (d : Command) (more : List Command) → IsAt w k g under d more → Stops w.heap.at g.env (op_of d)
    here g under d more that =
        let same : f ≡ g = same_frame at.here that.here in
        let command : c ≡ d = heads at.first (subst (λ z. z.rest.commands ≡ d ∷ more) (sym same) that.first) in
        subst (λ x. Stops w.heap.at g.env (op_of x)) command (subst (λ z. Stops w.heap.at z.env (op_of c)) same stops)

    not_done : (g : Frame) (under : List Suspended) → IsDone w k g under → ⊥
    not_done g under done = nil_cons (subst (λ z. z.rest.commands ≡ []) (sym (same_frame at.here done.here)) done.done) at.first

    stop_stops : NStep p w k w' → slice_get w'.threads k ≡ Some Stopped
    stop_stops (Step_acts g under d more v e' out that acts prints binds puts) = absurd (acts_stops w.heap.at w'.heap.at g.env (op_of d) v out acts (here g under d more that))
    stop_stops (Step_stops g under d more that s moves) = moves.threads.put
    stop_stops (Step_branches g under d more body that chooses moves) = absurd (chooses_stops w.heap.at g.env (op_of d) body chooses (here g under d more that))
    stop_stops (Step_joins g under level outer e' done out binds moves) = absurd (not_done g under done)
    stop_stops (Step_calls g under d more callee args that is q moves) = absurd (subst (λ o. Stops w.heap.at g.env o) is (here g under d more that))
    stop_stops (Step_returns g waiting under e' done out binds moves) = absurd (not_done g (waiting ∷ under) done)
    stop_stops (Step_ends g done out moves) = absurd (not_done g [] done)
    stop_stops (Step_spawns g under d more callee arg e' mid that is q binds heap prints one two) = absurd (subst (λ o. Stops w.heap.at g.env o) is (here g under d more that))

  -- a step after which the thread has ended is made at the end of its first frame
  ends_done : NStep p w k w' → slice_get w'.threads k ≡ Some Ended → (f : Frame) × IsDone w k f [] × (f.outer ≡ [])
  ends_done (Step_ends f done out moves) ended = (f, done, out)
  ends_done (Step_acts f below c rest v e' out at acts prints binds puts) ended = absurd (running_ended puts.put ended)
  ends_done (Step_stops f below c rest at stops moves) ended = absurd (stopped_ended moves.threads.put ended)
  ends_done (Step_branches f below c rest body at chooses moves) ended = absurd (running_ended moves.threads.put ended)
  ends_done (Step_joins f below level outer e' done out binds moves) ended = absurd (running_ended moves.threads.put ended)
  ends_done (Step_calls f below c rest callee args at is g moves) ended = absurd (running_ended moves.threads.put ended)
  ends_done (Step_returns f waiting below e' done out binds moves) ended = absurd (running_ended moves.threads.put ended)
  ends_done (Step_spawns f below c rest callee arg e' mid at is g binds heap prints one two) ended =
      let within : k < length w.threads = slice_get_within w.threads k (Running f below) at.here in
      absurd (running_ended (two.others k (λ same. omega (arith, within, same)) ∙ one.put) ended)

  -- a step at the end of a first frame ends the thread
  module _ (f : Frame) (done : IsDone w k f []) (out : f.outer ≡ []) where
    not_at : (g : Frame) (under : List Suspended) (d : Command) (more : List Command) → IsAt w k g under d more → ⊥
    not_at g under d more at = nil_cons (subst (λ z. z.rest.commands ≡ []) (same_frame done.here at.here) done.done) at.first

    levels : {l : Level} {outer : List Level} {f g : Frame} → f ≡ g → f.outer ≡ [] → g.outer ≡ l ∷ outer → ⊥
    levels e none some = nil_cons (subst (λ z. z.outer ≡ []) e none) some

    end_ends : NStep p w k w' → slice_get w'.threads k ≡ Some Ended
    end_ends (Step_acts g under d more v e' o that acts prints binds puts) = absurd (not_at g under d more that)
    end_ends (Step_stops g under d more that s moves) = absurd (not_at g under d more that)
    end_ends (Step_branches g under d more body that chooses moves) = absurd (not_at g under d more that)
    end_ends (Step_joins g under level outer e' finished some binds moves) = absurd (levels (same_frame done.here finished.here) out some)
    end_ends (Step_calls g under d more callee args that is q moves) = absurd (not_at g under d more that)
    end_ends (Step_returns g waiting under e' finished none binds moves) = absurd (nil_cons refl (same_below done.here finished.here))
    end_ends (Step_ends g finished none moves) = moves.threads.put
    end_ends (Step_spawns g under d more callee arg e' mid that is q binds heap prints one two) = absurd (not_at g under d more that)

  -- a thread that waits has no step
  waits_no_step : Waits w k → NStep p w k w' → ⊥
  waits_no_step x s = by (subst (λ o. Can p w x.frame.env o w') x.acquires (step_inv p w w' k x.frame x.below x.command x.rest x.stands s))
    where
      by : Can p w x.frame.env (Acquire_op x.lock) w' → ⊥
      by (Can_act v out acts) = held_free (subst (λ n. w.heap.at n ≡ Some (Lock_cell true)) (blocks x.is acts.0.is) x.held) acts.0.stood
      by (Can_stop stops) = stops
      by (Can_branch body chooses) = chooses
      by (Can_call callee args is g) = acquires_not is
      by (Can_spawn callee arg is g) = acquires_no_spawn is

-- ---- two answers

module _ (p : Program) (w w1 w2 : Config) (k : ℕ) where
  steps_stops_arith : GoesOn p w k w1 → StopsAtArith w k → ⊥
  steps_stops_arith g x = running_stopped g.running.runs (stop_stops p w w1 k x.frame x.below x.command x.rest x.stands (arith_stops w.heap.at x.frame.env (op_of x.command) x.fails) g.step)

  steps_stops_take : GoesOn p w k w1 → StopsAtTake w k → ⊥
  steps_stops_take g x = running_stopped g.running.runs (stop_stops p w w1 k x.frame x.below x.command x.rest x.stands (take_stops w.heap.at x.frame.env (op_of x.command) x.fails) g.step)

  ends_stops_arith : EndsBy p w k w1 → StopsAtArith w k → ⊥
  ends_stops_arith g x = stopped_ended (stop_stops p w w1 k x.frame x.below x.command x.rest x.stands (arith_stops w.heap.at x.frame.env (op_of x.command) x.fails) g.step) g.ended

  ends_stops_take : EndsBy p w k w1 → StopsAtTake w k → ⊥
  ends_stops_take g x = stopped_ended (stop_stops p w w1 k x.frame x.below x.command x.rest x.stands (take_stops w.heap.at x.frame.env (op_of x.command) x.fails) g.step) g.ended

  over_steps : {w3 : Config} → IsOver w k → NStep p w k w3 → ⊥
  over_steps {w3} over s = no_over (step_runs p w w3 k s).runs over

  steps_ends : GoesOn p w k w1 → EndsBy p w k w2 ⊎ (IsOver w k × (w2 ≡ w)) → ⊥
  steps_ends g (inl x) = let d = ends_done p w w2 k x.step x.ended in running_ended g.running.runs (end_ends p w w1 k d.0 d.1 d.2 g.step)
  steps_ends g (inr x) = over_steps x.0 g.step

  ends_arith : EndsBy p w k w1 ⊎ (IsOver w k × (w1 ≡ w)) → StopsAtArith w k → ⊥
  ends_arith (inl x) a = ends_stops_arith x a
  ends_arith (inr x) a = no_over a.stands.here x.0

  ends_take : EndsBy p w k w1 ⊎ (IsOver w k × (w1 ≡ w)) → StopsAtTake w k → ⊥
  ends_take (inl x) a = ends_stops_take x a
  ends_take (inr x) a = no_over a.stands.here x.0

  ends_waits : EndsBy p w k w1 ⊎ (IsOver w k × (w1 ≡ w)) → Waits w k → ⊥
  ends_waits (inl x) a = waits_no_step p w w1 k a x.step
  ends_waits (inr x) a = no_over a.stands.here x.0

  ends_wrong : EndsBy p w k w1 ⊎ (IsOver w k × (w1 ≡ w)) → IsWrong p w k → ⊥
  ends_wrong (inl x) a = a.no_step w1 x.step
  ends_wrong (inr x) a = no_over a.running.runs x.0

  arith_take : StopsAtArith w k → StopsAtTake w k → ⊥
  arith_take x y =
      let same : x.frame ≡ y.frame = same_frame x.stands.here y.stands.here in
      let command : x.command ≡ y.command = heads x.stands.first (subst (λ z. z.rest.commands ≡ y.command ∷ y.rest) (sym same) y.stands.first) in
      arith_takes w.heap.at y.frame.env (op_of y.command) (subst (λ c. FailsArith y.frame.env (op_of c)) command (subst (λ (z : Frame). FailsArith z.env (op_of x.command)) same x.fails)) y.fails

pub one_answer : AtMostOneAnswer
one_answer p w w1 w2 k turn.Stepped turn.Stepped a b = refl
one_answer p w w1 w2 k turn.Stepped turn.Ended a b = absurd (steps_ends p w w1 w2 k a b)
one_answer p w w1 w2 k turn.Stepped turn.TakeFailed a b = absurd (steps_stops_take p w w1 w2 k a b.0)
one_answer p w w1 w2 k turn.Stepped turn.Arith a b = absurd (steps_stops_arith p w w1 w2 k a b.0)
one_answer p w w1 w2 k turn.Stepped turn.Waits a b = absurd (waits_no_step p w w1 k b.0 a.step)
one_answer p w w1 w2 k turn.Stepped turn.Wrong a b = absurd (b.0.no_step w1 a.step)
one_answer p w w1 w2 k turn.Ended turn.Stepped a b = absurd (steps_ends p w w2 w1 k b a)
one_answer p w w1 w2 k turn.Ended turn.Ended a b = refl
one_answer p w w1 w2 k turn.Ended turn.TakeFailed a b = absurd (ends_take p w w1 w2 k a b.0)
one_answer p w w1 w2 k turn.Ended turn.Arith a b = absurd (ends_arith p w w1 w2 k a b.0)
one_answer p w w1 w2 k turn.Ended turn.Waits a b = absurd (ends_waits p w w1 w2 k a b.0)
one_answer p w w1 w2 k turn.Ended turn.Wrong a b = absurd (ends_wrong p w w1 w2 k a b.0)
one_answer p w w1 w2 k turn.TakeFailed turn.Stepped a b = absurd (steps_stops_take p w w2 w1 k b a.0)
one_answer p w w1 w2 k turn.TakeFailed turn.Ended a b = absurd (ends_take p w w2 w1 k b a.0)
one_answer p w w1 w2 k turn.TakeFailed turn.TakeFailed a b = refl
one_answer p w w1 w2 k turn.TakeFailed turn.Arith a b = absurd (arith_take p w w1 w2 k b.0 a.0)
one_answer p w w1 w2 k turn.TakeFailed turn.Waits a b = absurd (waits_no_step p w w1 k b.0 a.1.step)
one_answer p w w1 w2 k turn.TakeFailed turn.Wrong a b = absurd (b.0.no_step w1 a.1.step)
one_answer p w w1 w2 k turn.Arith turn.Stepped a b = absurd (steps_stops_arith p w w2 w1 k b a.0)
one_answer p w w1 w2 k turn.Arith turn.Ended a b = absurd (ends_arith p w w2 w1 k b a.0)
one_answer p w w1 w2 k turn.Arith turn.TakeFailed a b = absurd (arith_take p w w1 w2 k a.0 b.0)
one_answer p w w1 w2 k turn.Arith turn.Arith a b = refl
one_answer p w w1 w2 k turn.Arith turn.Waits a b = absurd (waits_no_step p w w1 k b.0 a.1.step)
one_answer p w w1 w2 k turn.Arith turn.Wrong a b = absurd (b.0.no_step w1 a.1.step)
one_answer p w w1 w2 k turn.Waits turn.Stepped a b = absurd (waits_no_step p w w2 k a.0 b.step)
one_answer p w w1 w2 k turn.Waits turn.Ended a b = absurd (ends_waits p w w2 w1 k b a.0)
one_answer p w w1 w2 k turn.Waits turn.TakeFailed a b = absurd (waits_no_step p w w2 k a.0 b.1.step)
one_answer p w w1 w2 k turn.Waits turn.Arith a b = absurd (waits_no_step p w w2 k a.0 b.1.step)
one_answer p w w1 w2 k turn.Waits turn.Waits a b = refl
one_answer p w w1 w2 k turn.Waits turn.Wrong a b = absurd (b.0.no_wait a.0)
one_answer p w w1 w2 k turn.Wrong turn.Stepped a b = absurd (a.0.no_step w2 b.step)
one_answer p w w1 w2 k turn.Wrong turn.Ended a b = absurd (ends_wrong p w w2 w1 k b a.0)
one_answer p w w1 w2 k turn.Wrong turn.TakeFailed a b = absurd (a.0.no_step w2 b.1.step)
one_answer p w w1 w2 k turn.Wrong turn.Arith a b = absurd (a.0.no_step w2 b.1.step)
one_answer p w w1 w2 k turn.Wrong turn.Waits a b = absurd (a.0.no_wait b.0)
one_answer p w w1 w2 k turn.Wrong turn.Wrong a b = refl
