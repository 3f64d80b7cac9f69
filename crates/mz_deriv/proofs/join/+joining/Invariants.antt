use Rattle.std.proofs.Common.{◌≡◌, take, map}
use Rattle.mz_tree.specs.Plain.{map_atom}
use Rattle.mz_tree.specs.View.{plain_atoms}
use Rattle.mz_deriv.specs.Walks.{in_place_of}
use Rattle.mz_deriv.proofs.join.+joining.Given as goal

abbrev pub invariant-with_value-loop-i : goal.invariant-with_value-loop-i
invariant-with_value-loop-i l = plain_atoms l.done ≡ map (map_atom (in_place_of l.old l.new)) (plain_atoms (take l.i l.atoms))
