use Rattle.std.proofs.Common.{◌≡◌}
use Rattle.mz_decl.specs.Contents.{names_from}
use Rattle.mz_deriv.proofs.owing.parameters.Given as goal

abbrev pub invariant-loop-name : goal.invariant-loop-name
invariant-loop-name l = l.names ≡ names_from 0 l.name
