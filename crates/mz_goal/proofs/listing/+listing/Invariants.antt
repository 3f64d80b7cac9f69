use Rattle.std.proofs.Common.{◌≡◌, ◌++◌, take}
use Rattle.mz_tree.specs.Plain.{atoms_of}
use Rattle.mz_tree.specs.View.{plain_atoms}
use Rattle.mz_view.specs.Spots.{names_in}
use Rattle.mz_goal.proofs.listing.+listing.Given as goal

abbrev pub invariant-list_atoms-loop-i : goal.invariant-list_atoms-loop-i
invariant-list_atoms-loop-i l = l.names ≡ l.initial.names ++ names_in (atoms_of (plain_atoms (take l.i l.atoms)))
