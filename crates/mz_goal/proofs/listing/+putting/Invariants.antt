use Rattle.std.proofs.Common.{◌≡◌, ◌+◌, length, take}
use Rattle.mz_tree.specs.Plain.{atoms_of}
use Rattle.mz_tree.specs.View.{plain_atoms}
use Rattle.mz_view.specs.Spots.{names_in}
use Rattle.mz_goal.proofs.listing.+putting.Given as goal

abbrev pub invariant-put_in_atoms-loop-i : goal.invariant-put_in_atoms-loop-i
invariant-put_in_atoms-loop-i l = l.spot ≡ length (names_in (atoms_of (plain_atoms (take l.i l.atoms)))) + l.left
