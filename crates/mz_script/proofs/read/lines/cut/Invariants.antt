use Rattle.std.proofs.Common.{take}
use Rattle.mz_script.proofs.Cuts.{NoEnd}
use Rattle.mz_script.proofs.read.lines.cut.Given as goal

-- no line ends so far
abbrev pub invariant-loop-i : goal.invariant-loop-i
invariant-loop-i l = NoEnd (take l.i l.bytes)
