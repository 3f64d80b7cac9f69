-- What a turn answers.
use Rattle.std.specs.Prelude.{◌≡◌, ◌<◌, Bool, true, false, ℕ}
use Rattle.mz_words.specs.declared.code.Code.{Code}
use Rattle.mz_words.specs.declared.options.Options.{Options}
use Rattle.mz_words.specs.declared.ends.End.{End}
use Rattle.mz_words.specs.declared.ends.End.TheVariants.{Blocked}
use Rattle.mz_words.specs.declared.asks.Ask.TheVariants.{Nothing}
use Rattle.mz_words.specs.declared.stages.Stage.{Stage}
use Rattle.mz_words.specs.declared.stages.Stage.TheVariants.{Over}
use Rattle.mz_words.specs.Standing.{Standing}
use Rattle.mz_words.specs.Steps.{ask}
use Rattle.mz_thread.specs.declared.thread.Turn.{Turn}
use Rattle.mz_thread.specs.declared.thread.Turn.TheVariants.{Again, Ended, Wild}

abbrev pub IsNotOver : Stage → Type 0
IsNotOver (Over e) = ⊥
IsNotOver _ = Unit {0}

-- the answer, by the stage and by whether the last event ended the turn
abbrev pub AnswersAs : Stage → Bool → Turn → Type 0
AnswersAs stage paused (Ended e) = stage ≡ Over e
AnswersAs stage paused Again = IsNotOver stage × (paused ≡ true)
AnswersAs stage paused Wild = IsNotOver stage × (paused ≡ false)

-- a turn that no event ended comes to where the thread asks nothing
pub record Turned (c : Code) (o : Options) (k : ℕ) (t : Standing) (paused : Bool) (r : Turn) : Type 0 where
  pub told : AnswersAs t.stage paused r
  pub wild : paused ≡ false → ask c o k t ≡ Nothing

-- an end that isn't the one at a lock
abbrev pub IsNotBlocked : End → Type 0
IsNotBlocked (Blocked place) = ⊥
IsNotBlocked _ = Unit {0}

-- a thread has the end at a lock exactly where as many of its tries failed, one behind the other, as may
abbrev pub LostAtEnd : Options → End → ℕ → Type 0
LostAtEnd o (Blocked place) lost = lost ≡ o.tries
LostAtEnd o _ lost = lost < o.tries

abbrev pub LostAs : Options → Turn → ℕ → Type 0
LostAs o (Ended e) lost = LostAtEnd o e lost
LostAs o _ lost = Unit {0}
