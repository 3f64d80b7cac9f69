use Rattle.std.proofs.Common.{◌≡◌, take}
use Rattle.mz_goal.proofs.listing.copy_atoms.Given as goal

abbrev pub invariant-loop-i : goal.invariant-loop-i
invariant-loop-i l = l.all ≡ take l.i l.atoms
