use Rattle.std.proofs.Common.{◌≡◌, ◌++◌, take}
use Rattle.mz_view.specs.Steps.{plain_steps}
use Rattle.mz_goal.specs.Reaching.{drop_steps, equal_to}
use Rattle.mz_goal.proofs.naming.forget.Given as goal

abbrev pub invariant-loop-i : goal.invariant-loop-i
invariant-loop-i l = plain_steps l.steps ≡ plain_steps l.initial.steps ++ drop_steps (equal_to l.from (take l.i l.reached))
