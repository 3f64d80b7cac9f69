use Rattle.std.proofs.Common.{length}
use Rattle.mz_elab.proofs.joins.in_order.Given as goal

abbrev pub decreases-loop-case : goal.decreases-loop-case
decreases-loop-case l = length l.left
