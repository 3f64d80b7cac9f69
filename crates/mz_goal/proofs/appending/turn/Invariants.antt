use Rattle.std.proofs.Common.{◌≡◌, ◌++◌, length, reverse}
use Rattle.mz_goal.proofs.appending.turn.Given as goal

abbrev pub invariant-loop-step : goal.invariant-loop-step
invariant-loop-step l = l.left ++ reverse l.turned ≡ l.initial.left

abbrev pub decreases-loop-step : goal.decreases-loop-step
decreases-loop-step l = length l.left
