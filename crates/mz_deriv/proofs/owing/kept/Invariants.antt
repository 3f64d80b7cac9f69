use Rattle.std.proofs.Common.{◌≡◌, ◌++◌, map, drop}
use Rattle.mz_tree.specs.View.{plain_atoms, plain_need}
use Rattle.mz_decl.specs.Signatures.{kept}
use Rattle.mz_deriv.proofs.owing.kept.Given as goal

abbrev pub invariant-loop-i : goal.invariant-loop-i
invariant-loop-i l = plain_atoms l.atoms ++ kept (map plain_need (drop l.i l.needs)) ≡ kept (map plain_need l.needs)
