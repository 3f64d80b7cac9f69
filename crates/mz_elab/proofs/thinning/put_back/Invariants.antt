use Rattle.std.proofs.Common.{◌≡◌, ◌++◌, length, reverse}
use Rattle.mz_elab.proofs.thinning.put_back.Given as goal

abbrev pub invariant-loop-item : goal.invariant-loop-item
invariant-loop-item l = l.items ++ reverse l.left ≡ l.initial.items ++ reverse l.initial.left

abbrev pub decreases-loop-item : goal.decreases-loop-item
decreases-loop-item l = length l.left
