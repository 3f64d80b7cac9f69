use Rattle.std.proofs.Common.{◌∙◌}
use Rattle.mz_goal.proofs.Reaching.{has_rest}
use Rattle.mz_goal.proofs.naming.is_reached.Goals as goal

pub returns : goal.returns
returns c = c.is_in.ensures ∙ has_rest c.args.from c.args.name c.args.reached.now c.if-from-name.false
