use Rattle.std.proofs.Common.{◌≡◌, take, map}
use Rattle.mz_tree.specs.Plain.{map_atom}
use Rattle.mz_tree.specs.View.{plain_atoms}
use Rattle.mz_deriv.specs.Walks.{in_place_of}
use Rattle.mz_elab.proofs.values.+values.Given as goal

abbrev pub invariant-atoms_with-loop-i : goal.invariant-atoms_with-loop-i
invariant-atoms_with-loop-i l = plain_atoms l.done ≡ map (map_atom (in_place_of l.old l.new)) (plain_atoms (take l.i l.atoms))
