use Rattle.mz_tree.specs.View.{plain_ty}
use Rattle.mz_view.specs.Steps.{plain_steps}
use Rattle.mz_goal.proofs.Lending.{moved_ok, not_moved}
use Rattle.mz_goal.proofs.naming.rename.Goals as goal

pub returns-then-from-to : goal.returns-then-from-to
returns-then-from-to c D m = not_moved D c.args.state.now c.args.to c.args.from (plain_ty c.args.ty.now) (plain_steps c.args.steps.now) c.if-from-to.true

pub returns : goal.returns
returns c D m = moved_ok c.drop_kept.result D c.args.state.now c.args.to c.args.from (plain_ty c.args.ty.now) (plain_steps c.args.steps.now) (plain_steps c.equate.new.steps) (plain_steps c.give_name.new.steps) (plain_steps c.drop_kept.new.steps) (c.in_ok-equate.ensures D) c.in_ok-give_name.ensures (c.drop_kept.ensures D m)
