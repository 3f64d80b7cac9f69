use Rattle.std.proofs.Common.{◌≡◌, ◌++◌, ◌∷◌, false}
use Rattle.mz_decl.specs.Declarations.{Decls}
use Rattle.mz_view.specs.Steps.{plain_steps}
use Rattle.mz_goal.specs.Added.{Added}
use Rattle.mz_goal.specs.Reaching.{equal_to, has, outside}
use Rattle.mz_goal.proofs.naming.equate.Given as goal

abbrev pub invariant-loop-reached : goal.invariant-loop-reached
invariant-loop-reached l = ((D : Decls) → Added D l.state (plain_steps l.initial.steps) (plain_steps l.steps) (l.state ++ equal_to l.left l.reached)) × (has (l.left ∷ l.reached) l.right ≡ false)

abbrev pub decreases-loop-reached : goal.decreases-loop-reached
decreases-loop-reached l = outside l.state (l.left ∷ l.reached)
