use Rattle.mz_view.specs.Steps.{plain_steps}
use Rattle.mz_goal.proofs.Reached.{added_by, copied, follows_over, pushed}
use Rattle.mz_goal.proofs.naming.follow.Goals as goal

pub returns-then-left-from : goal.returns-then-left-from
returns-then-left-from c D Q i j = added_by D Q _ _ _ _ (pushed _ _ _ c.in_ok-push.ensures.ok) (copied D Q c.args.from c.args.left c.args.right c.if-left-from.true i)

pub returns : goal.returns
returns c = follows_over c.pass_over.result c.args.from c.args.left c.args.right (plain_steps c.args.steps.now) (plain_steps c.pass_over.new.steps) c.if-left-from.false c.pass_over.ensures
