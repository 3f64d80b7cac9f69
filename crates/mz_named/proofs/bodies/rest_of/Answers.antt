use Rattle.mz_named.proofs.Begins.{rest_begins}
use Rattle.mz_named.proofs.bodies.rest_of.Goals as goal

pub returns : goal.returns
returns c = rest_begins c.args.body.now c.in_ok-commands.commands c.in_ok-commands.ensures
