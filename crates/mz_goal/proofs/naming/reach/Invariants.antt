use Rattle.std.proofs.Common.{◌≡◌, ◌∷◌}
use Rattle.mz_goal.proofs.Reaching.{LevelBelow}
use Rattle.mz_goal.proofs.naming.reach.Given as goal

abbrev pub invariant-loop-i : goal.invariant-loop-i
invariant-loop-i l = LevelBelow l.i l.state (l.from ∷ l.reached) × (l.steps ≡ l.initial.steps)
