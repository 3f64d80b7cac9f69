use Rattle.std.proofs.Common.{drop}
use Rattle.mz_tree.specs.Plain.{atoms_of}
use Rattle.mz_tree.specs.View.{plain_atoms}
use Rattle.mz_view.specs.Spots.{names_in}
use Rattle.mz_view.specs.Answers.{IsSpot}
use Rattle.mz_view.specs.declared.spots.Spot.{Spot}
use Rattle.mz_view.proofs.spots.+spots.Given as goal

abbrev pub invariant-spot_in_atoms-loop-i : goal.invariant-spot_in_atoms-loop-i
invariant-spot_in_atoms-loop-i l = (s : Spot) → IsSpot s (names_in (atoms_of (plain_atoms (drop l.i l.atoms)))) l.left → IsSpot s (names_in (atoms_of (plain_atoms l.atoms))) l.spot
