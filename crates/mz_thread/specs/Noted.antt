-- What the words' note says of a thread that gave up at a lock.
use Rattle.std.specs.Prelude.{ℕ, ◌+◌, Option}
use Rattle.mz_words.specs.declared.words.Note.{Note}
use Rattle.mz_words.specs.declared.code.Code.{Code}
use Rattle.mz_words.specs.declared.stages.Stage.{Stage}
use Rattle.mz_words.specs.declared.stages.Stage.TheVariants.{Closing, Over}
use Rattle.mz_words.specs.Standing.{Standing}
use Rattle.mz_words.specs.Ran.{EndIsNoted}

-- what a stage says of it, where there are so many entries so far
abbrev pub StageIsNoted : Code → Standing → Stage → Option Note → ℕ → Type 0
StageIsNoted c t (Closing e) last entries = EndIsNoted c t e last (entries + 1)
StageIsNoted c t (Over e) last entries = EndIsNoted c t e last entries
StageIsNoted c t _ last entries = Unit {0}

-- the words' note is that of the end that the thread has, or comes to
unfoldable pub IsNoted : Code → Standing → Option Note → ℕ → Type 0
IsNoted c t last entries = StageIsNoted c t t.stage last entries
