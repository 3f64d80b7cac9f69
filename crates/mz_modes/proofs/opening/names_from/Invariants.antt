use Rattle.std.proofs.Common.{◌≡◌}
use Rattle.mz_decl.specs.Contents.{names_from}
use Rattle.mz_modes.proofs.opening.names_from.Given as goal

abbrev pub invariant-loop-i : goal.invariant-loop-i
invariant-loop-i l = l.names ≡ names_from l.from l.i
