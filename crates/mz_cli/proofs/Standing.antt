-- Thread 0 on its way through the body of `main`: where it stands after each step, what the answers of a step then are, and
-- that no other answer comes.
use Rattle.std.proofs.Common.{◌≡◌, inl, inr, ℕ, zero, suc, ◌≤◌, List, [], ◌∷◌, ◌++◌, length, drop, Some, refl, sym, ap, ◌∙◌, subst, slice_get}
use Rattle.std.proofs.lemmas.List.{drop_all}
use Rattle.mz_tree.specs.Code.{Body, Command, The_command, op_of, place_of, commands_in}
use Rattle.mz_tree.specs.Programs.{Fun, Program}
use Rattle.mz_named.specs.Machine.{Frame, Suspended, Running, Ended, Config, next, start, IsAt, IsDone, NStep, NSteps, No_steps, More_steps, IsOpening, NamedSafe}
use Rattle.mz_named.specs.Answering.{StopsAtArith, GoesOn, StopsBy, IsWrong, Answers}
use Rattle.mz_named.specs.declared.turn.NamedTurn.{NamedTurn}
use Rattle.mz_named.specs.declared.turn.NamedTurn.TheVariants as turn
use Rattle.mz_cli.specs.declared.run.Ending.TheVariants as ending
use Rattle.mz_cli.specs.Running.{Steps, No_step, Step_more, LeadsTo}
use Rattle.mz_cli.specs.Answered.{RunsTo}
use Rattle.mz_cli.proofs.Places.{none_some, some_is}
use Rattle.mz_cli.proofs.NameKinds.{NameKind, Kinds, Gives, AllGive}
use Rattle.mz_cli.proofs.Cells.{IsOfCells, cell_main, only_one}
use Rattle.mz_cli.proofs.Straight.{ended_runs, stopped_runs, stopped_ended, no_take, no_acquire, After, Has_acted, Has_stopped, command_is, after_command, no_command, after_end}

-- ---- lists

-- where one stands, the rest begins with it
drop_at : {A : Type 0} (xs : List A) (i : ℕ) (x : A) → slice_get xs i ≡ Some x → drop i xs ≡ x ∷ drop (suc i) xs
drop_at [] i x is = absurd (none_some _ x refl is)
drop_at (y ∷ xs) zero x is = ap (λ z. z ∷ xs) (some_is (Some y) y x refl is)
drop_at (y ∷ xs) (suc i) x is = drop_at xs i x is

-- each command of a body that goes by kinds fits some kinds
pub record Fits (c : Command) : Type 0 where
  pub kinds : Kinds
  pub kind : NameKind
  pub gives : Gives kinds (op_of c) kind

pub fits_at : (kinds : Kinds) (commands : List Command) (i : ℕ) (c : Command) → AllGive kinds commands → slice_get commands i ≡ Some c → Fits c
fits_at kinds [] i c all is = absurd (none_some _ c refl is)
fits_at kinds (The_command to op place ∷ commands) zero c (kind, to_is, gives, others) is =
    record { kinds = kinds; kind = kind; gives = subst (λ d. Gives kinds (op_of d) kind) (some_is (Some (The_command to op place)) (The_command to op place) c refl is) gives }
fits_at kinds (The_command to op place ∷ commands) (suc i) c (kind, to_is, gives, others) is = fits_at (kinds ++ kind ∷ []) commands i c others is

-- ---- steps of thread 0

-- they are steps
all_steps : {p : Program} {w w' : Config} → Steps p w w' → NSteps p w w'
all_steps No_step = No_steps
all_steps (Step_more s more) = More_steps 0 s (all_steps more)

-- and one more follows
step_on : {p : Program} {w w' w'' : Config} → Steps p w w' → NStep p w' 0 w'' → Steps p w w''
step_on No_step s = Step_more s No_step
step_on (Step_more t more) s = Step_more t (step_on more s)

lead_on : (p : Program) (w w' : Config) → LeadsTo p w → NStep p w 0 w' → LeadsTo p w'
lead_on p w w' led s = record { start = led.start; opening = led.opening; steps = step_on led.steps s }

-- no run of a safe program leads to where the thread is wrong
not_wrong : (p : Program) (w : Config) → NamedSafe p → LeadsTo p w → IsWrong p w 0 → ⊥
not_wrong p w safe led wrong =
    let fine = safe led.start w led.opening (all_steps led.steps) in
    elim (fine.goes_on 0 wrong.running.frame wrong.running.below wrong.running.runs) [
      | inl on ↦ wrong.no_step on.0 on.1
      | inr waits ↦ wrong.no_wait waits
    ]

-- ---- where the thread stands

-- a run led here, and the thread stands before command i of the body
pub record IsStanding (p : Program) (body : Body) (i : ℕ) (w : Config) : Type 0 where
  pub led : LeadsTo p w
  pub frame : Frame
  pub here : slice_get w.threads 0 ≡ Some (Running frame [])
  pub left : frame.rest.commands ≡ drop i (commands_in body)
  pub alone : frame.outer ≡ []

-- a program of cells opens with its only function
pub opening_commands : (p : Program) (w : Config) (cells : IsOfCells p) (o : IsOpening p w) → commands_in o.main.body ≡ commands_in cells.body
opening_commands p w cells o =
    let declared : slice_get (cell_main cells.body cells.spelling ∷ []) o.number ≡ Some o.main = subst (λ (q : Program). slice_get q.funs o.number ≡ Some o.main) cells.is o.declared in
    ap (λ (f : Fun). commands_in f.body) (only_one (cell_main cells.body cells.spelling) o.main o.number declared)

-- at the opening the thread stands before the first command
pub stands_first : (p : Program) (w : Config) (cells : IsOfCells p) → IsOpening p w → IsStanding p cells.body 0 w
stands_first p w cells o = record {
  led = record { start = w; opening = o; steps = No_step };
  frame = start o.main [];
  here = ap (λ l. slice_get l 0) o.threads;
  left = opening_commands p w cells o;
  alone = refl;
}

-- ---- at a command

module _ (p : Program) (body : Body) (i : ℕ) (w w' : Config) (s : IsStanding p body i w) (c : Command) (here : slice_get (commands_in body) i ≡ Some c) (fits : Fits c) where
  at_command : IsAt w 0 s.frame [] c (drop (suc i) (commands_in body))
  at_command = record { here = s.here; first = s.left ∙ drop_at (commands_in body) i c here }

  after : NStep p w 0 w' → After w 0 s.frame [] c (drop (suc i) (commands_in body)) w'
  after step = after_command w 0 s.frame [] c (drop (suc i) (commands_in body)) at_command p w' fits.kinds fits.kind fits.gives step

  same_command : (g : Frame) (under : List Suspended) (d : Command) (more : List Command) → IsAt w 0 g under d more → c ≡ d
  same_command g under d more a = command_is w 0 s.frame [] c (drop (suc i) (commands_in body)) at_command g under d more a

  -- after its step it stands before the next one
  pub goes_on : GoesOn p w 0 w' → IsStanding p body (suc i) w'
  goes_on on = by (after on.step)
    where
      by : After w 0 s.frame [] c (drop (suc i) (commands_in body)) w' → IsStanding p body (suc i) w'
      by (Has_acted v e' out acts prints binds stands) = record { led = lead_on p w w' s.led on.step; frame = next s.frame e' (drop (suc i) (commands_in body)); here = stands; left = refl; alone = s.alone }
      by (Has_stopped prints stopped) = absurd (stopped_runs stopped on.running.runs)

  -- where the command stops it, the run stops here
  pub stops_here : StopsAtArith w 0 → StopsBy p w 0 w' → RunsTo p (ending.Stopped (place_of c)) w'.prints
  stops_here stop by = (w, s.led, record { stop = stop; there = ap place_of (sym (same_command stop.frame stop.below stop.command stop.rest stop.stands)) }, same (after by.step))
    where
      same : After w 0 s.frame [] c (drop (suc i) (commands_in body)) w' → w'.prints ≡ w.prints
      same (Has_acted v e' out acts prints binds stands) = absurd (stopped_runs by.stopped stands)
      same (Has_stopped prints stopped) = prints

  -- no other answer comes
  pub no_other : NamedSafe p → (answer : NamedTurn) → Answers p w 0 answer w' → (answer ≡ turn.Stepped → ⊥) → (answer ≡ turn.Arith → ⊥) → ⊥
  no_other safe turn.Stepped a steps ariths = steps refl
  no_other safe turn.Ended (inl by) steps ariths = not_ended (after by.step)
    where
      not_ended : After w 0 s.frame [] c (drop (suc i) (commands_in body)) w' → ⊥
      not_ended (Has_acted v e' out acts prints binds stands) = ended_runs by.ended stands
      not_ended (Has_stopped prints stopped) = stopped_ended stopped by.ended
  no_other safe turn.Ended (inr (inl ended, same)) steps ariths = ended_runs ended s.here
  no_other safe turn.Ended (inr (inr stopped, same)) steps ariths = stopped_runs stopped s.here
  no_other safe turn.TakeFailed (stop, by) steps ariths =
      no_take fits.kinds (op_of stop.command) fits.kind w.heap.at stop.frame.env (subst (λ d. Gives fits.kinds (op_of d) fits.kind) (same_command stop.frame stop.below stop.command stop.rest stop.stands) fits.gives) stop.fails
  no_other safe turn.Arith a steps ariths = ariths refl
  no_other safe turn.Waits (waits, same) steps ariths =
      no_acquire fits.kinds (op_of waits.command) fits.kind waits.lock (subst (λ d. Gives fits.kinds (op_of d) fits.kind) (same_command waits.frame waits.below waits.command waits.rest waits.stands) fits.gives) waits.acquires
  no_other safe turn.Wrong (wrong, same) steps ariths = not_wrong p w safe s.led wrong

-- ---- at the end

module _ (p : Program) (body : Body) (i : ℕ) (w w' : Config) (s : IsStanding p body i w) (past : length (commands_in body) ≤ i) where
  at_end : IsDone w 0 s.frame []
  at_end = record { here = s.here; done = s.left ∙ drop_all i (commands_in body) past }

  -- the thread ends, and so does the run
  pub ends_here : Answers p w 0 turn.Ended w' → RunsTo p ending.Ended w'.prints
  ends_here (inl by) = (w', lead_on p w w' s.led by.step, by.ended, refl)
  ends_here (inr (inl ended, same)) = absurd (ended_runs ended s.here)
  ends_here (inr (inr stopped, same)) = absurd (stopped_runs stopped s.here)

  -- no other answer comes
  pub no_other_end : NamedSafe p → (answer : NamedTurn) → Answers p w 0 answer w' → (answer ≡ turn.Ended → ⊥) → ⊥
  no_other_end safe turn.Stepped on ends = ended_runs (after_end p w w' 0 s.frame at_end s.alone on.step).ended on.running.runs
  no_other_end safe turn.Ended a ends = ends refl
  no_other_end safe turn.TakeFailed (stop, by) ends = no_command p w w' 0 s.frame at_end s.alone stop.frame stop.below stop.command stop.rest stop.stands
  no_other_end safe turn.Arith (stop, by) ends = no_command p w w' 0 s.frame at_end s.alone stop.frame stop.below stop.command stop.rest stop.stands
  no_other_end safe turn.Waits (waits, same) ends = no_command p w w' 0 s.frame at_end s.alone waits.frame waits.below waits.command waits.rest waits.stands
  no_other_end safe turn.Wrong (wrong, same) ends = not_wrong p w safe s.led wrong
