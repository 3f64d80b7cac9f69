use Rattle.std.proofs.Common.{refl}
use Rattle.mz_tree.specs.View.{plain_atom}
use Rattle.mz_decl.specs.View.{plain_decls}
use Rattle.mz_elab.specs.Standing.{IsKnown}
use Rattle.mz_elab.proofs.GoalSteps.{said_so, unknown_met}
use Rattle.mz_elab.proofs.goals.meet_goal.Goals as goal

pub returns-then-is_unknown_goal : goal.returns-then-is_unknown_goal
returns-then-is_unknown_goal c = unknown_met (plain_decls c.args.decls.now) (IsKnown c.args.bound.now c.args.next) c.args.state.now c.args.state.now (plain_atom c.args.goal.now) c.args.items.now c.meet_unknown.new.items (said_so (plain_atom c.args.goal.now) c.is_unknown_goal.result c.if-is_unknown_goal.true c.is_unknown_goal.ensures) refl c.in_ok-meet_unknown.ensures
