use Rattle.std.proofs.Common.{take}
use Rattle.mz_tree.specs.View.{plain_atoms}
use Rattle.mz_decl.specs.Declarations.{Decls}
use Rattle.mz_modes.specs.Modes.{AreModes}
use Rattle.mz_view.specs.Steps.{plain_steps}
use Rattle.mz_goal.specs.Folding.{DropsEach}
use Rattle.mz_goal.proofs.folding.drop_each.Given as goal

abbrev pub invariant-loop-i : goal.invariant-loop-i
invariant-loop-i l = (D : Decls) → AreModes D l.modes → DropsEach D (plain_atoms (take l.i l.goals)) (plain_steps l.initial.steps) (plain_steps l.steps)
