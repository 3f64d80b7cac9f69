use Rattle.std.proofs.Common.{◌≡◌, take}
use Rattle.mz_index.proofs.index.copy_atoms.Given as goal

abbrev pub invariant-loop-i : goal.invariant-loop-i
invariant-loop-i l = l.all.items ≡ take l.i l.atoms
