-- What a call of a step answers, and what it says.
use Rattle.std.specs.Prelude.{◌≡◌, ◌⊎◌, ℕ, List, Some, slice_get}
use Rattle.mz_tree.specs.Code.{Command, op_of}
use Rattle.mz_tree.specs.Programs.{Program}
use Rattle.mz_named.specs.Configurations.{Frame, Suspended, Running, Ended, Stopped, Config}
use Rattle.mz_named.specs.Steps.{IsAt, NStep}
use Rattle.mz_named.specs.Safety.{Waits}
use Rattle.mz_named.specs.Doing.{FailsArith, FailsTake}
use Rattle.mz_named.specs.declared.turn.NamedTurn.{NamedTurn}
use Rattle.mz_named.specs.declared.turn.NamedTurn.TheVariants as turn

-- thread k runs
pub record IsRunning (w : Config) (k : ℕ) : Type 0 where
  pub frame : Frame
  pub below : List Suspended
  pub runs : slice_get w.threads k ≡ Some (Running frame below)

-- thread k has ended or stopped
abbrev pub IsOver : Config → ℕ → Type 0
IsOver w k = (slice_get w.threads k ≡ Some Ended) ⊎ (slice_get w.threads k ≡ Some Stopped)

-- thread k is wrong: it runs, has no step, its stop included, and doesn't wait
pub record IsWrong (p : Program) (w : Config) (k : ℕ) : Type 0 where
  pub running : IsRunning w k
  pub no_step : (w' : Config) → NStep p w k w' → ⊥
  pub no_wait : Waits w k → ⊥

-- the next command of thread k stops it: its arithmetic has no number as its result
pub record StopsAtArith (w : Config) (k : ℕ) : Type 0 where
  pub frame : Frame
  pub below : List Suspended
  pub command : Command
  pub rest : List Command
  pub stands : IsAt w k frame below command rest
  pub fails : FailsArith frame.env (op_of command)

-- the next command of thread k stops it: the block that it takes isn't its adopter's
pub record StopsAtTake (w : Config) (k : ℕ) : Type 0 where
  pub frame : Frame
  pub below : List Suspended
  pub command : Command
  pub rest : List Command
  pub stands : IsAt w k frame below command rest
  pub fails : FailsTake w.heap.at frame.env (op_of command)

-- a step of thread k after which it runs, has ended, or has stopped
pub record GoesOn (p : Program) (w : Config) (k : ℕ) (w' : Config) : Type 0 where
  pub step : NStep p w k w'
  pub running : IsRunning w' k

pub record EndsBy (p : Program) (w : Config) (k : ℕ) (w' : Config) : Type 0 where
  pub step : NStep p w k w'
  pub ended : slice_get w'.threads k ≡ Some Ended

pub record StopsBy (p : Program) (w : Config) (k : ℕ) (w' : Config) : Type 0 where
  pub step : NStep p w k w'
  pub stopped : slice_get w'.threads k ≡ Some Stopped

-- what each answer says of the configurations before and after the call
abbrev pub Answers : Program → Config → ℕ → NamedTurn → Config → Type 0
Answers p w k turn.Stepped w' = GoesOn p w k w'
Answers p w k turn.Ended w' = EndsBy p w k w' ⊎ (IsOver w k × (w' ≡ w))
Answers p w k turn.TakeFailed w' = StopsAtTake w k × StopsBy p w k w'
Answers p w k turn.Arith w' = StopsAtArith w k × StopsBy p w k w'
Answers p w k turn.Waits w' = Waits w k × (w' ≡ w)
Answers p w k turn.Wrong w' = IsWrong p w k × (w' ≡ w)
