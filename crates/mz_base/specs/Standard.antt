-- What standard input and output do beyond what every source and sink does.
use Rattle.std.specs.Prelude.{ℕ, Result}
use Rattle.mz_base.specs.declared.Failed.{Failed}
use Rattle.mz_base.specs.declared.standard.StdSource.{StdSource}
use Rattle.mz_base.specs.declared.standard.StdSink.{StdSink}
use Rattle.mz_base.specs.Causes.{CountsFaults, CountsStalls}

-- a read that fails is counted
abbrev pub CountsReads : StdSource → StdSource → Result ℕ Failed → Type 0
CountsReads old now result = CountsFaults old.faults now.faults result

-- a write that fails is counted, and one that takes nothing of a piece that isn't empty
pub record CountsWrites (old now : StdSink) (size : ℕ) (result : Result ℕ Failed) : Type 0 where
  pub faults : CountsFaults old.faults now.faults result
  pub stalls : CountsStalls old.stalls now.stalls size result
