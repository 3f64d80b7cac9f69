use Rattle.std.proofs.Common.{◌≡◌, ◌≤◌, length, take}
use Rattle.mz_goal.proofs.appending.cut.Given as goal

abbrev pub invariant-loop-steps : goal.invariant-loop-steps
invariant-loop-steps l = record {
  same : take l.count l.steps ≡ take l.count l.initial.steps;
  enough : l.count ≤ length l.steps;
}

abbrev pub decreases-loop-steps : goal.decreases-loop-steps
decreases-loop-steps l = length l.steps
