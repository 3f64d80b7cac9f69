use Rattle.std.proofs.Common.{◌≡◌, take, map}
use Rattle.mz_tree.specs.Renaming.{name_at}
use Rattle.mz_perm.proofs.renaming.rename_names.Given as goal

abbrev pub invariant-loop-i : goal.invariant-loop-i
invariant-loop-i l = l.done ≡ map (name_at l.to) (take l.i l.names)
