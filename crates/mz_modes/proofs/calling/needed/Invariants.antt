use Rattle.std.proofs.Common.{◌≡◌, take, map}
use Rattle.mz_tree.specs.View.{plain_atoms, plain_need}
use Rattle.mz_decl.specs.Signatures.{needed}
use Rattle.mz_modes.proofs.calling.needed.Given as goal

abbrev pub invariant-loop-i : goal.invariant-loop-i
invariant-loop-i l = plain_atoms l.atoms ≡ needed (map plain_need (take l.i l.all))
