use Rattle.mz_view.specs.Steps.{plain_steps}
use Rattle.mz_goal.proofs.Serving.{added_ok}
use Rattle.mz_goal.proofs.taking.bring.Goals as goal

pub returns : goal.returns
returns c D m = added_ok c.retype.result D _ _ _ (plain_steps c.args.steps.now) (plain_steps c.rename.new.steps) (plain_steps c.retype.new.steps) (c.in_ok-rename.ensures D m) (c.retype.ensures D m)
