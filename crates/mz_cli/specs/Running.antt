-- Runs of a program by thread 0 of the named machine, from the opening, and what they come to.
use Rattle.std.specs.Prelude.{◌≡◌, ℕ, Some, slice_get}
use Rattle.mz_tree.specs.declared.types.Place.{Place}
use Rattle.mz_tree.specs.Code.{place_of}
use Rattle.mz_tree.specs.Programs.{Program}
use Rattle.mz_named.specs.Configurations.{Ended, Config}
use Rattle.mz_named.specs.Steps.{NStep}
use Rattle.mz_named.specs.Safety.{IsOpening}
use Rattle.mz_named.specs.Answering.{StopsAtArith}

-- steps of thread 0
pub data Steps (p : Program) : Config → Config → Type 0 where
  No_step : {w : Config} → Steps p w w
  Step_more : {w w' w'' : Config} → NStep p w 0 w' → Steps p w' w'' → Steps p w w''

-- thread 0 goes from the program's opening to this configuration
pub record LeadsTo (p : Program) (w : Config) : Type 0 where
  pub start : Config
  pub opening : IsOpening p start
  pub steps : Steps p start w

-- thread k has ended
abbrev pub HasEnded : Config → ℕ → Type 0
HasEnded w k = slice_get w.threads k ≡ Some Ended

-- the next command of thread k stands at this place and stops the thread, since its arithmetic has no number as its result
pub record StopsAt (w : Config) (k : ℕ) (place : Place) : Type 0 where
  pub stop : StopsAtArith w k
  pub there : place_of stop.command ≡ place
