use Rattle.std.proofs.Common.{◌≡◌, take, map}
use Rattle.mz_tree.specs.Plain.{map_atom}
use Rattle.mz_tree.specs.View.{plain_atoms}
use Rattle.mz_index.specs.Labels.{label}
use Rattle.mz_index.proofs.likeness.+labelling.Given as goal

abbrev pub invariant-labelled_atoms-loop-i : goal.invariant-labelled_atoms-loop-i
invariant-labelled_atoms-loop-i l = plain_atoms l.done ≡ map (map_atom (label l.links)) (plain_atoms (take l.i l.atoms))
