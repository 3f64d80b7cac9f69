use Rattle.std.proofs.Common.{◌≡◌, ◌++◌, length, reverse, take}
use Rattle.mz_goal.proofs.appending.put_back.Given as goal

abbrev pub invariant-loop-step : goal.invariant-loop-step
invariant-loop-step l = record {
  all : l.steps ++ reverse l.left ≡ l.initial.steps ++ reverse l.initial.left;
  front : take (length l.initial.steps) l.steps ≡ l.initial.steps;
}

abbrev pub decreases-loop-step : goal.decreases-loop-step
decreases-loop-step l = length l.left
