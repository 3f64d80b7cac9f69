use Rattle.std.proofs.Common.{take}
use Rattle.mz_tree.specs.View.{plain_atoms}
use Rattle.mz_index.specs.Labels.{AreLabels}
use Rattle.mz_index.proofs.labels.links_of.Given as goal

abbrev pub invariant-loop-i : goal.invariant-loop-i
invariant-loop-i l = AreLabels l.links (plain_atoms (take l.i l.atoms))
