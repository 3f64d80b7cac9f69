use Rattle.std.proofs.Common.{◌≡◌, take, map}
use Rattle.mz_index.specs.Labels.{label}
use Rattle.mz_index.proofs.likeness.labelled_names.Given as goal

abbrev pub invariant-loop-i : goal.invariant-loop-i
invariant-loop-i l = l.done ≡ map (label l.links) (take l.i l.names)
