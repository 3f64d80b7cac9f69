-- Where a thread stands.
use Rattle.std.specs.Prelude.{ℕ, List}
use Rattle.mz_words.specs.declared.stages.Stage.{Stage}
use Rattle.mz_words.specs.declared.stages.Waiting.{Waiting}

-- the instruction and the registers of the frame in which it runs, the frames that wait below it, the innermost first, the
-- units that it has made, the tries that have failed since its last entry but the one that closes its record, and how far it is
pub record Standing : Type 0 where
  pub at : ℕ
  pub regs : List ℕ
  pub below : List Waiting
  pub units : ℕ
  pub lost : ℕ
  pub stage : Stage
