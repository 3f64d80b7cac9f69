use Rattle.mz_view.specs.Steps.{plain_steps}
use Rattle.mz_goal.proofs.Wholes.{drops_none, drops_next}
use Rattle.mz_goal.proofs.folding.drop_each.Goals as goal

pub loop-i-preserved : goal.loop-i-preserved
loop-i-preserved c D m = drops_next D c.args.goals.now c.loop-i.i c.index-goals-i.result (plain_steps c.args.steps.now) (plain_steps c.loop-i.steps) (plain_steps c.drop_one.new.steps) c.loop-i-test.true c.index-goals-i.is (c.loop-i.invariant D m) (c.in_ok-drop_one.ensures D m)

pub loop-i-init : goal.loop-i-init
loop-i-init c D m = drops_none D (plain_steps c.args.steps.now)
