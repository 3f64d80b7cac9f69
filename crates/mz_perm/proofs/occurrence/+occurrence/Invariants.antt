use Rattle.std.proofs.Common.{◌≡◌, drop}
use Rattle.mz_tree.specs.View.{plain_atoms}
use Rattle.mz_perm.specs.Occurrence.{occurs}
use Rattle.mz_perm.proofs.occurrence.+occurrence.Given as goal

abbrev pub invariant-in_atoms-loop-i : goal.invariant-in_atoms-loop-i
invariant-in_atoms-loop-i l = occurs l.name (plain_atoms l.atoms) ≡ occurs l.name (plain_atoms (drop l.i l.atoms))
