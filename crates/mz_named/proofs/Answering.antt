-- What the code does with a thread is a step of the plain machine, or what it answers in its place.
use Rattle.std.proofs.Common.{◌≡◌, inl, ℕ, zero, suc, ◌+◌, List, [], ◌∷◌, ◌++◌, length, map, reverse, drop, Some, None, refl, sym, ap, ◌∙◌, subst, slice_get, slice_set, option_map, true, Vec, Global, arith}
use Rattle.std.proofs.lemmas.Option.{slice_get-map, get_or_from_slice_get}
use Rattle.std.proofs.Math.Seq.{map-set_same}
use Rattle.std.proofs.lemmas.List.{append-nil, length-map, map-set, map-append, reverse-append}
use Rattle.mz_tree.specs.Code.{Op, Command, Arith_op, Take_op, Acquire_op, op_of}
use Rattle.mz_tree.specs.Programs.{Program}
use Rattle.mz_tree.specs.View.{plain_op, plain_command, plain_commands}
use Rattle.mz_tree.specs.declared.code.Command.{Command as CodeCommand}
use Rattle.mz_named.specs.Machine.{Block_value, Cells, Lock_cell, Environment, Rest, Frame, Suspended, Thread, Running, Ended, Stopped, Config, Puts, rest_of, start, Stops, next, inside, IsAt, IsDone, Moves, Step_acts, Step_stops, Step_branches, Step_joins, Step_calls, Step_returns, Step_ends, Step_spawns, Waits}
use Rattle.mz_named.specs.View.{plain_value, plain_rest, plain_level, plain_frame, plain_suspended, plain_thread, env_of, cells_of, heap_of, config_of}
use Rattle.mz_named.specs.Doing.{IsHeldUp, FailsArith, FailsTake}
use Rattle.mz_named.specs.Planning.{HasNoStep, Plans, Leaves, Comes, By_command, By_end}
use Rattle.mz_named.specs.Moving.{skipped, moved, levels_of, waiting_of, gone, entered, called, joined, returned, Settles}
use Rattle.mz_named.specs.Answering.{IsWrong, Answers}
use Rattle.mz_named.specs.declared.config.Cell.{Cell as CodeCell}
use Rattle.mz_named.specs.declared.config.Frame.{Frame as CodeFrame}
use Rattle.mz_named.specs.declared.config.Suspended.{Suspended as CodeSuspended}
use Rattle.mz_named.specs.declared.config.Thread.{Thread as CodeThread}
use Rattle.mz_named.specs.declared.config.Thread.TheVariants as thread
use Rattle.mz_named.specs.declared.plan.Plan.{Plan}
use Rattle.mz_named.specs.declared.plan.Plan.TheVariants as plan
use Rattle.mz_named.specs.declared.turn.NamedTurn.{NamedTurn}
use Rattle.mz_named.proofs.OneCell.{set_here, set_there, end_here, end_there}
use Rattle.mz_named.proofs.OneThread.{stays, set_length}
use Rattle.mz_named.proofs.Inverting.{heads, same_frame, Can, Can_act, Can_stop, Can_branch, Can_call, Can_spawn, step_inv}

-- ---- lists

drop_here : {A : Type 0} (xs : List A) (n : ℕ) (x : A) → slice_get xs n ≡ Some x → drop n xs ≡ x ∷ drop (n + 1) xs
drop_here [] n x e = absurd (cc)
drop_here (y ∷ xs) zero x e = let same : y ≡ x = cc in ap (λ h. h ∷ xs) same
drop_here (y ∷ xs) (suc n) x e =
    let more : suc n + 1 ≡ suc (n + 1) = omega arith in
    drop_here xs n x e ∙ sym (ap (λ m. x ∷ drop m (y ∷ xs)) more)

drop_none : {A : Type 0} (xs : List A) (n : ℕ) → slice_get xs n ≡ None → drop n xs ≡ []
drop_none [] zero e = refl
drop_none [] (suc n) e = refl
drop_none (y ∷ xs) zero e = absurd (cc)
drop_none (y ∷ xs) (suc n) e = drop_none xs n e

none_mapped : {A B : Type 0} (f : A → B) (xs : List A) → map f xs ≡ [] → xs ≡ []
none_mapped f [] e = refl
none_mapped f (x ∷ xs) e = absurd (cc)

one_mapped : {A B : Type 0} (f : A → B) (xs : List A) (y : B) → map f xs ≡ y ∷ [] → (x : A) × (xs ≡ x ∷ []) × (f x ≡ y)
one_mapped f [] y e = absurd (cc)
one_mapped f (x ∷ []) y e = (x, refl, cc)
one_mapped f (x ∷ z ∷ xs) y e = absurd (cc)

-- the last one comes first where the list is turned round
last_first : {A B : Type 0} (f : A → B) (xs before : List A) (x : A) → xs ≡ before ++ x ∷ [] → reverse (map f xs) ≡ f x ∷ reverse (map f before)
last_first f xs before x e = ap (λ l. reverse (map f l)) e ∙ ap reverse (map-append f before (x ∷ [])) ∙ reverse-append (map f before) (f x ∷ [])

set_append : {A : Type 0} (xs ys : List A) (k : ℕ) (x y : A) → slice_get xs k ≡ Some y → slice_set (xs ++ ys) k x ≡ slice_set xs k x ++ ys
set_append [] ys k x y e = absurd (cc)
set_append (z ∷ xs) ys zero x y e = refl
set_append (z ∷ xs) ys (suc k) x y e = ap (λ l. z ∷ l) (set_append xs ys k x y e)

-- ---- operations

pub arith_stops : (at : Cells) (e : Environment) (op : Op) → FailsArith e op → Stops at e op
arith_stops at e (Arith_op operator x y) fails = fails
arith_stops at e _ fails = absurd fails

pub take_stops : (at : Cells) (e : Environment) (op : Op) → FailsTake at e op → Stops at e op
take_stops at e (Take_op x y) fails = fails
take_stops at e _ fails = absurd fails

held_lock : (at : Cells) (e : Environment) (op : Op) → IsHeldUp at e op → (lock : ℕ) × (op ≡ Acquire_op lock) × (b : ℕ) × (e lock ≡ Block_value b) × (at b ≡ Some (Lock_cell true))
held_lock at e (Acquire_op lock) h = (lock, refl, h.0, h.1, h.2)
held_lock at e _ h = absurd h

-- ---- a thread that runs

module _ (p : Program) (cells cells' : List CodeCell) (prints prints' : List ℕ) (threads threads' : List CodeThread) (k : ℕ) (f : CodeFrame) (below : Vec CodeSuspended Global) (here : slice_get threads k ≡ Some (thread.Running f below)) where
  abbrev w : Config
  w = config_of cells threads prints

  abbrev w' : Config
  w' = config_of cells' threads' prints'

  abbrev waits : List Suspended
  waits = waiting_of below.items

  abbrev rest : List Command
  rest = plain_commands (drop (f.rest.next + 1) f.rest.commands)

  plain_here : slice_get (map plain_thread threads) k ≡ Some (Running (plain_frame f) waits)
  plain_here = slice_get-map plain_thread threads k ∙ ap (option_map plain_thread) here

  pub stands_at : (command : CodeCommand) → slice_get f.rest.commands f.rest.next ≡ Some command → IsAt w k (plain_frame f) waits (plain_command command) rest
  stands_at command first = record { here = plain_here; first = ap plain_commands (drop_here f.rest.commands f.rest.next command first) }

  pub stands_done : (under : List Suspended) → waits ≡ under → slice_get f.rest.commands f.rest.next ≡ None → IsDone w k (plain_frame f) under
  stands_done under same none = record { here = plain_here ∙ ap (λ l. Some (Running (plain_frame f) l)) same; done = ap plain_commands (drop_none f.rest.commands f.rest.next none) }

  -- what becomes of the list of threads
  puts : (t : CodeThread) (after : List CodeThread) → after ≡ slice_set threads k t → Puts (slice_get (map plain_thread threads)) k (plain_thread t) (slice_get (map plain_thread after))
  puts t after e =
      let mapped : map plain_thread after ≡ slice_set (map plain_thread threads) k (plain_thread t) = ap (map plain_thread) e ∙ map-set plain_thread threads k t in
      record {
        put = ap (λ l. slice_get l k) mapped ∙ set_here (map plain_thread threads) k (plain_thread t) (Running (plain_frame f) waits) plain_here;
        others = λ m differ. ap (λ l. slice_get l m) mapped ∙ set_there (map plain_thread threads) k (plain_thread t) m differ;
      }

  alone : (plan : Plan) (answer : NamedTurn) (s : Settles threads k f below.items plan answer threads') → map plain_thread s.started ≡ [] → threads' ≡ slice_set threads k s.thread
  alone plan answer s none = s.put ∙ ap (λ l. slice_set l k s.thread) (ap (λ l. threads ++ l) (none_mapped plain_thread s.started none) ∙ append-nil threads)

  becomes : (plan : Plan) (answer : NamedTurn) (s : Settles threads k f below.items plan answer threads') → map plain_thread s.started ≡ [] → (t : Thread) → plain_thread s.thread ≡ t → Puts (slice_get (map plain_thread threads)) k t (slice_get (map plain_thread threads'))
  becomes plan answer s none t is = subst (λ u. Puts (slice_get (map plain_thread threads)) k u (slice_get (map plain_thread threads'))) is (puts s.thread threads' (alone plan answer s none))

  moves : cells' ≡ cells → prints' ≡ prints → (t : Thread) → Puts (slice_get (map plain_thread threads)) k t (slice_get (map plain_thread threads')) → Moves w k t w'
  moves same_cells same_prints t put = record { heap = λ n. ap (λ l. cells_of l n) same_cells; prints = same_prints; threads = put }

  abbrev config : List CodeCell → List Thread → List ℕ → Config
  config cs ts ps = record { heap = heap_of cs; threads = ts; prints = ps }

  -- nothing has changed
  same_config : cells' ≡ cells → prints' ≡ prints → map plain_thread threads' ≡ map plain_thread threads → w' ≡ w
  same_config same_cells same_prints same_threads =
      ap (λ cs. config cs (map plain_thread threads') prints') same_cells ∙ ap (λ ts. config cells ts prints') same_threads ∙ ap (λ ps. config cells (map plain_thread threads) ps) same_prints

  unchanged : (plan : Plan) (answer : NamedTurn) (s : Settles threads k f below.items plan answer threads') → map plain_thread s.started ≡ [] → plain_thread s.thread ≡ Running (plain_frame f) waits → map plain_thread threads' ≡ map plain_thread threads
  unchanged plan answer s none is =
      ap (map plain_thread) (alone plan answer s none)
      ∙ map-set_same plain_thread threads k s.thread (thread.Running f below) (is ∙ sym (ap plain_thread (get_or_from_slice_get threads k (thread.Running f below) (thread.Running f below) here)))

  -- ---- by a command

  module _ (command : CodeCommand) (first : slice_get f.rest.commands f.rest.next ≡ Some command) where
    abbrev op : Op
    op = plain_op command.op

    abbrev entering : ℕ → Rest → Thread
    entering to r = Running (record { env = env_of f.values; rest = r; outer = record { to = to; after = plain_rest (skipped f.rest) } ∷ levels_of f.outer.items }) waits

    abbrev calling : ℕ → Frame → Thread
    calling to g = Running g (record { to = to; frame = plain_frame (moved f f.values) } ∷ waits)

    wrong : HasNoStep p (cells_of cells) (env_of f.values) op → IsWrong p w k
    wrong h = record {
      running = record { frame = plain_frame f; below = waits; runs = plain_here };
      no_step = λ v s. no_can v (step_inv p w v k (plain_frame f) waits (plain_command command) rest (stands_at command first) s);
      no_wait = no_wait;
    }
      where
        no_can : (v : Config) → Can p w (env_of f.values) op v → ⊥
        no_can v (Can_act x out acts) = h.stuck.no_act x v.heap.at out acts
        no_can v (Can_stop stops) = h.stuck.no_stop stops
        no_can v (Can_branch body chooses) = h.no_choice body chooses
        no_can v (Can_call callee args is g) = h.no_call callee args is g
        no_can v (Can_spawn callee arg is g) = h.no_spawn callee arg is g

        no_wait : Waits w k → ⊥
        no_wait x =
            let frame_is : x.frame ≡ plain_frame f = same_frame x.stands.here plain_here in
            let command_is : x.command ≡ plain_command command = heads (subst (λ g. g.rest.commands ≡ x.command ∷ x.rest) frame_is x.stands.first) (stands_at command first).first in
            let op_is : op ≡ Acquire_op x.lock = sym (ap op_of command_is) ∙ x.acquires in
            h.stuck.no_wait (subst (λ o. IsHeldUp (cells_of cells) (env_of f.values) o) (sym op_is) (x.name, subst (λ (g : Frame). g.env x.lock ≡ Block_value x.name) frame_is x.is, x.held))

    by_command : (plan : Plan) (answer : NamedTurn) → Plans p cells prints f.values command.to op plan cells' prints' → Settles threads k f below.items plan answer threads' → Answers p w k answer w'
    by_command (plan.Goes values) answer g s =
        let put = becomes (plan.Goes values) answer s s.starts (gone f below.items values) s.turns.1 in
        subst (λ a. Answers p w k a w') (sym s.turns.0) (record {
          step = Step_acts (plain_frame f) waits (plain_command command) rest (plain_value g.value) (env_of values) g.acts.out (stands_at command first) g.acts.acts g.acts.printed g.binds put;
          running = record { frame = next (plain_frame f) (env_of values) rest; below = waits; runs = put.put };
        })
    by_command plan.FailsArith answer h s =
        let put = becomes plan.FailsArith answer s s.starts Stopped s.turns.1 in
        subst (λ a. Answers p w k a w') (sym s.turns.0) (
          record { frame = plain_frame f; below = waits; command = plain_command command; rest = rest; stands = stands_at command first; fails = h.0 },
          record { step = Step_stops (plain_frame f) waits (plain_command command) rest (stands_at command first) (arith_stops (cells_of cells) (env_of f.values) op h.0) (moves h.1 h.2 Stopped put); stopped = put.put },
        )
    by_command plan.FailsTake answer h s =
        let put = becomes plan.FailsTake answer s s.starts Stopped s.turns.1 in
        subst (λ a. Answers p w k a w') (sym s.turns.0) (
          record { frame = plain_frame f; below = waits; command = plain_command command; rest = rest; stands = stands_at command first; fails = h.0 },
          record { step = Step_stops (plain_frame f) waits (plain_command command) rest (stands_at command first) (take_stops (cells_of cells) (env_of f.values) op h.0) (moves h.1 h.2 Stopped put); stopped = put.put },
        )
    by_command (plan.Branches level after) answer h s =
        let t : Thread = Running (inside (plain_frame f) command.to h.0.body rest) waits in
        let is : entered f below.items level after ≡ t = ap (λ r. entering level r) h.0.begins ∙ ap (λ l. entering l (rest_of h.0.body)) h.0.named in
        let put = becomes (plan.Branches level after) answer s s.starts t (s.turns.1 ∙ is) in
        subst (λ a. Answers p w k a w') (sym s.turns.0) (record {
          step = Step_branches (plain_frame f) waits (plain_command command) rest h.0.body (stands_at command first) h.0.chooses (moves h.1 h.2 t put);
          running = record { frame = inside (plain_frame f) command.to h.0.body rest; below = waits; runs = put.put };
        })
    by_command (plan.Calls waiting frame) answer h s =
        let q = h.0 in
        let t : Thread = Running (start q.function.fun (map (env_of f.values) q.args)) (record { to = command.to; frame = next (plain_frame f) (env_of f.values) rest } ∷ waits) in
        let is : called f below.items waiting frame ≡ t = ap (λ g. calling waiting g) q.begins ∙ ap (λ to. calling to (start q.function.fun (map (env_of f.values) q.args))) q.named in
        let put = becomes (plan.Calls waiting frame) answer s s.starts t (s.turns.1 ∙ is) in
        subst (λ a. Answers p w k a w') (sym s.turns.0) (record {
          step = Step_calls (plain_frame f) waits (plain_command command) rest q.callee q.args (stands_at command first) q.is q.function (moves h.1 h.2 t put);
          running = record { frame = start q.function.fun (map (env_of f.values) q.args); below = record { to = command.to; frame = next (plain_frame f) (env_of f.values) rest } ∷ waits; runs = put.put };
        })
    by_command (plan.Spawns frame values) answer h s =
        let q = h.0 in
        let one = one_mapped plain_thread s.started (Running (plain_frame frame) []) s.starts in
        let mid : List CodeThread = slice_set threads k s.thread in
        let longer : threads' ≡ mid ++ one.0 ∷ [] = s.put ∙ ap (λ l. slice_set (threads ++ l) k s.thread) one.1 ∙ set_append threads (one.0 ∷ []) k s.thread (thread.Running f below) here in
        let mapped : map plain_thread threads' ≡ map plain_thread mid ++ plain_thread one.0 ∷ [] = ap (map plain_thread) longer ∙ map-append plain_thread mid (one.0 ∷ []) in
        let end : length (map plain_thread threads) ≡ length (map plain_thread mid) = length-map threads plain_thread ∙ sym (length-map mid plain_thread ∙ set_length threads k s.thread) in
        let begun : plain_thread one.0 ≡ Running (start q.function.fun (env_of f.values q.arg ∷ [])) [] = one.2 ∙ ap (λ g. Running g []) q.begins in
        let put : Puts (slice_get (map plain_thread threads)) k (gone f below.items values) (slice_get (map plain_thread mid)) =
        subst (λ u. Puts (slice_get (map plain_thread threads)) k u (slice_get (map plain_thread mid))) s.turns.1 (puts s.thread mid refl) in
        let put2 : Puts (slice_get (map plain_thread mid)) (length (map plain_thread threads)) (Running (start q.function.fun (env_of f.values q.arg ∷ [])) []) (slice_get (map plain_thread threads')) = record {
          put = ap (λ l. slice_get l (length (map plain_thread threads))) mapped ∙ ap (slice_get (map plain_thread mid ++ plain_thread one.0 ∷ [])) end ∙ end_here (map plain_thread mid) (plain_thread one.0) ∙ ap Some begun;
          others = λ m differ. ap (λ l. slice_get l m) mapped ∙ end_there (map plain_thread mid) (plain_thread one.0) m (λ same. differ (same ∙ sym end));
        } in
        let before : slice_get (map plain_thread threads') k ≡ Some (gone f below.items values) = ap (λ l. slice_get l k) mapped ∙ stays (map plain_thread mid) (plain_thread one.0 ∷ []) k (gone f below.items values) put.put in
        subst (λ a. Answers p w k a w') (sym s.turns.0) (record {
          step = Step_spawns (plain_frame f) waits (plain_command command) rest q.callee q.arg (env_of values) (slice_get (map plain_thread mid)) (stands_at command first) q.is q.function q.binds (λ n. ap (λ l. cells_of l n) h.1) h.2 put put2;
          running = record { frame = next (plain_frame f) (env_of values) rest; below = waits; runs = before };
        })
    by_command (plan.Joins values) answer h s = absurd h
    by_command (plan.Returns values) answer h s = absurd h
    by_command plan.Ends answer h s = absurd h
    by_command plan.Waits answer h s =
        let l = held_lock (cells_of cells) (env_of f.values) op h.0 in
        subst (λ a. Answers p w k a w') (sym s.turns.0) (
          record { frame = plain_frame f; below = waits; command = plain_command command; rest = rest; stands = stands_at command first; lock = l.0; acquires = l.1; name = l.2; is = l.3; held = l.4 },
          same_config h.1 h.2 (unchanged plan.Waits answer s s.starts s.turns.1),
        )
    by_command plan.Wrong answer h s =
        subst (λ a. Answers p w k a w') (sym s.turns.0) (wrong h.0, same_config h.1 h.2 (unchanged plan.Wrong answer s s.starts s.turns.1))

  -- ---- at the end of a body

  by_end : (plan : Plan) (answer : NamedTurn) → slice_get f.rest.commands f.rest.next ≡ None → Leaves f below.items plan → cells' ≡ cells → prints' ≡ prints → Settles threads k f below.items plan answer threads' → Answers p w k answer w'
  by_end (plan.Joins values) answer none j same_cells same_prints s =
      let put = becomes (plan.Joins values) answer s s.starts (joined j.before j.level below.items values) (s.turns.1 j.before j.level j.last) in
      subst (λ a. Answers p w k a w') (sym s.turns.0) (record {
        step = Step_joins (plain_frame f) waits (plain_level j.level) (levels_of j.before) (env_of values) (stands_done waits refl none) (last_first plain_level f.outer.items j.before j.level j.last) j.binds
            (moves same_cells same_prints (joined j.before j.level below.items values) put);
        running = record { frame = record { env = env_of values; rest = plain_rest j.level.after; outer = levels_of j.before }; below = waits; runs = put.put };
      })
  by_end (plan.Returns values) answer none r same_cells same_prints s =
      let put = becomes (plan.Returns values) answer s s.starts (returned r.before r.waiting values) (s.turns.1 r.before r.waiting r.last) in
      let under : waits ≡ plain_suspended r.waiting ∷ waiting_of r.before = last_first plain_suspended below.items r.before r.waiting r.last in
      subst (λ a. Answers p w k a w') (sym s.turns.0) (record {
        step = Step_returns (plain_frame f) (plain_suspended r.waiting) (waiting_of r.before) (env_of values) (stands_done (plain_suspended r.waiting ∷ waiting_of r.before) under none) (ap levels_of r.first) r.binds
            (moves same_cells same_prints (returned r.before r.waiting values) put);
        running = record { frame = record { env = env_of values; rest = plain_rest r.waiting.frame.rest; outer = levels_of r.waiting.frame.outer.items }; below = waiting_of r.before; runs = put.put };
      })
  by_end plan.Ends answer none l same_cells same_prints s =
      let put = becomes plan.Ends answer s s.starts Ended s.turns.1 in
      subst (λ a. Answers p w k a w') (sym s.turns.0) (inl (record {
        step = Step_ends (plain_frame f) (stands_done [] (ap waiting_of l.1) none) (ap levels_of l.0) (moves same_cells same_prints Ended put);
        ended = put.put;
      }))
  by_end (plan.Goes values) answer none l same_cells same_prints s = absurd l
  by_end plan.FailsArith answer none l same_cells same_prints s = absurd l
  by_end plan.FailsTake answer none l same_cells same_prints s = absurd l
  by_end (plan.Branches to after) answer none l same_cells same_prints s = absurd l
  by_end (plan.Calls to frame) answer none l same_cells same_prints s = absurd l
  by_end (plan.Spawns frame values) answer none l same_cells same_prints s = absurd l
  by_end plan.Waits answer none l same_cells same_prints s = absurd l
  by_end plan.Wrong answer none l same_cells same_prints s = absurd l

  pub answers : (plan : Plan) (answer : NamedTurn) → Comes p cells prints f below.items plan cells' prints' → Settles threads k f below.items plan answer threads' → Answers p w k answer w'
  answers plan answer (By_command command first plans) s = by_command command first plan answer plans s
  answers plan answer (By_end none leaves same_cells same_prints) s = by_end plan answer none leaves same_cells same_prints s
