use Rattle.std.proofs.Common.{◌≡◌, take, map}
use Rattle.mz_tree.specs.Plain.{map_atom}
use Rattle.mz_tree.specs.View.{plain_atoms}
use Rattle.mz_tree.specs.Renaming.{name_at}
use Rattle.mz_perm.proofs.renaming.+substitution.Given as goal

abbrev pub invariant-rename_atoms-loop-i : goal.invariant-rename_atoms-loop-i
invariant-rename_atoms-loop-i l = plain_atoms l.done ≡ map (map_atom (name_at l.to)) (plain_atoms (take l.i l.atoms))
