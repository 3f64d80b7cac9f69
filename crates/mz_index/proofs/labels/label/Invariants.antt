use Rattle.std.proofs.Common.{◌≡◌, drop}
use Rattle.mz_index.specs.Labels.{label}
use Rattle.mz_index.proofs.labels.label.Given as goal

abbrev pub invariant-loop-i : goal.invariant-loop-i
invariant-loop-i l = label l.links l.name ≡ label (drop l.i l.links) l.at
