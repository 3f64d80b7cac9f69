-- What holds of a thread wherever it stands: its counts are within the limits.
use Rattle.std.specs.Prelude.{◌≡◌, ◌<◌, ◌≤◌, ℕ, length}
use Rattle.mz_words.specs.declared.options.Options.{Options}
use Rattle.mz_words.specs.declared.asks.Answer.{Answer}
use Rattle.mz_words.specs.declared.asks.Answer.TheVariants.{Quiet, Refused}
use Rattle.mz_words.specs.declared.stages.Stage.{Stage}
use Rattle.mz_words.specs.declared.stages.Stage.TheVariants.{Border, Ready, Making, Taking, Spawning, Unmatched, Closing, Over}
use Rattle.mz_words.specs.Standing.{Standing}
use Rattle.mz_thread.specs.Turned.{IsNotBlocked, LostAtEnd}

-- a stage behind an entry of an instruction, with so many units made
abbrev pub IsRunning : Stage → ℕ → Type 0
IsRunning Border units = Unit {0}
IsRunning Ready units = Unit {0}
IsRunning (Making base i) units = i ≤ units
IsRunning Taking units = Unit {0}
IsRunning (Spawning k i) units = (k < 64) × (i ≤ units)
IsRunning Unmatched units = Unit {0}
IsRunning (Closing e) units = IsNotBlocked e
IsRunning _ units = ⊥

-- an answer without an entry and without a try
abbrev pub HasNoStep : Answer → Type 0
HasNoStep Quiet = Unit {0}
HasNoStep Refused = Unit {0}
HasNoStep _ = ⊥

-- how many tries have failed, by stage
abbrev pub LostWithin : Options → Stage → ℕ → Type 0
LostWithin o Border lost = lost < o.tries
LostWithin o Ready lost = lost < o.tries
LostWithin o (Making base i) lost = lost < o.tries
LostWithin o Taking lost = lost < o.tries
LostWithin o (Spawning k i) lost = lost < o.tries
LostWithin o Unmatched lost = lost < o.tries
LostWithin o (Closing e) lost = LostAtEnd o e lost
LostWithin o (Over e) lost = LostAtEnd o e lost
LostWithin o _ lost = lost ≡ 0

-- each step inside an instruction was a unit, and the number that a spawn drew is a thread's
abbrev pub StageWithin : Stage → ℕ → Type 0
StageWithin (Making base i) units = i ≤ units
StageWithin (Spawning k i) units = (k < 64) × (i ≤ units)
StageWithin _ units = Unit {0}

pub record Inside (o : Options) (t : Standing) : Type 0 where
  pub units : t.units ≤ o.steps
  pub frames : length t.below ≤ t.units
  pub lost : LostWithin o t.stage t.lost
  pub stage : StageWithin t.stage t.units
