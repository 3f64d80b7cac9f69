use Rattle.std.proofs.Common.{length}
use Rattle.mz_elab.proofs.joins.turned.Given as goal

abbrev pub decreases-loop-end : goal.decreases-loop-end
decreases-loop-end l = length l.left.items
