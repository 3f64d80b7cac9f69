use Rattle.std.proofs.Common.{◌≡◌, ◌++◌, take}
use Rattle.mz_tree.specs.View.{plain_atoms}
use Rattle.mz_elab.proofs.locking.add_each.Given as goal

abbrev pub invariant-loop-i : goal.invariant-loop-i
invariant-loop-i l = l.state ≡ l.initial.state ++ plain_atoms (take l.i l.atoms)
