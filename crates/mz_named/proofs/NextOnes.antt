-- What the next command of a thread accesses, and threads that have none.
use Rattle.std.proofs.Common.{◌≡◌, ℕ, ◌+◌, List, [], Option, Some, None, refl, ap, ◌∙◌, subst, slice_get, option_map, drop, Vec, Global}
use Rattle.std.proofs.lemmas.Option.{slice_get-map}
use Rattle.mz_tree.specs.Programs.{Program}
use Rattle.mz_tree.specs.View.{plain_op, plain_command, plain_commands}
use Rattle.mz_tree.specs.declared.code.Command.{Command as CodeCommand}
use Rattle.mz_named.specs.Configurations.{Frame, Suspended, Thread, Running, Ended, Stopped}
use Rattle.mz_named.specs.Accessing.{reads_of, writes_of, Accesses, At_command, No_command}
use Rattle.mz_named.specs.Moving.{waiting_of}
use Rattle.mz_named.specs.View.{plain_frame, plain_thread, env_of, config_of}
use Rattle.mz_named.specs.declared.config.Cell.{Cell as CodeCell}
use Rattle.mz_named.specs.declared.config.Frame.{Frame as CodeFrame}
use Rattle.mz_named.specs.declared.config.Suspended.{Suspended as CodeSuspended}
use Rattle.mz_named.specs.declared.config.Thread.{Thread as CodeThread}
use Rattle.mz_named.specs.declared.config.Thread.TheVariants as thread
use Rattle.mz_named.proofs.Inverting.{nil_cons, same_frame}
use Rattle.mz_named.proofs.Answering.{stands_at, stands_done}

module _ (p : Program) (cells : List CodeCell) (prints : List ℕ) (threads : List CodeThread) (k : ℕ) where
  pub accesses : (f : CodeFrame) (below : Vec CodeSuspended Global) (command : CodeCommand) (reads writes : List ℕ) → slice_get threads k ≡ Some (thread.Running f below) → slice_get f.rest.commands f.rest.next ≡ Some command →
      reads ≡ reads_of (env_of f.values) (plain_op command.op) → writes ≡ writes_of (env_of f.values) (plain_op command.op) → Accesses (config_of cells threads prints) k reads writes
  accesses f below command reads writes here first read written =
      At_command (plain_frame f) (waiting_of below.items) (plain_command command) (plain_commands (drop (f.rest.next + 1) f.rest.commands))
      (stands_at p cells cells prints prints threads threads k f below here command first) read written

  pub done_accesses : (f : CodeFrame) (below : Vec CodeSuspended Global) → slice_get threads k ≡ Some (thread.Running f below) → slice_get f.rest.commands f.rest.next ≡ None → Accesses (config_of cells threads prints) k [] []
  done_accesses f below here none =
      let done = stands_done p cells cells prints prints threads threads k f below here (waiting_of below.items) refl none in
      No_command (λ g under c rest at. nil_cons (subst (λ (z : Frame). z.rest.commands ≡ []) (same_frame done.here at.here) done.done) at.first) refl refl

  ended_is : slice_get threads k ≡ Some thread.Ended → (g : Frame) (under : List Suspended) → slice_get (config_of cells threads prints).threads k ≡ Some (Running g under) → ⊥
  ended_is here g under runs = other (slice_get-map plain_thread threads k ∙ ap (option_map plain_thread) here) runs
    where
      other : {o : Option Thread} → o ≡ Some Ended → o ≡ Some (Running g under) → ⊥
      other e f = cc

  stopped_is : slice_get threads k ≡ Some thread.Stopped → (g : Frame) (under : List Suspended) → slice_get (config_of cells threads prints).threads k ≡ Some (Running g under) → ⊥
  stopped_is here g under runs = other (slice_get-map plain_thread threads k ∙ ap (option_map plain_thread) here) runs
    where
      other : {o : Option Thread} → o ≡ Some Stopped → o ≡ Some (Running g under) → ⊥
      other e f = cc

  pub ended_accesses : slice_get threads k ≡ Some thread.Ended → Accesses (config_of cells threads prints) k [] []
  ended_accesses here = No_command (λ g under c rest at. ended_is here g under at.here) refl refl

  pub stopped_accesses : slice_get threads k ≡ Some thread.Stopped → Accesses (config_of cells threads prints) k [] []
  stopped_accesses here = No_command (λ g under c rest at. stopped_is here g under at.here) refl refl
