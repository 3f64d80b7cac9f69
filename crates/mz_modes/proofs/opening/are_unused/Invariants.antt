use Rattle.mz_modes.specs.Opening.{AreFresh}
use Rattle.mz_modes.proofs.opening.are_unused.Given as goal

abbrev pub invariant-loop-i : goal.invariant-loop-i
invariant-loop-i l = AreFresh l.state l.from l.i
