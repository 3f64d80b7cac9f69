use Rattle.std.proofs.Common.{ap, ◌∙◌, reverse, map}
use Rattle.mz_tree.specs.View.{plain_fun}
use Rattle.mz_named.specs.View.{plain_rest, plain_level, env_of}
use Rattle.mz_named.proofs.Begins.{frame_begins}
use Rattle.mz_named.proofs.bodies.start.Goals as goal

pub returns : goal.returns
returns c =
    ap (λ l. record { env = env_of c.args.args; rest = plain_rest c.in_ok-rest.rest; outer = reverse (map plain_level l) }) c.new.ensures.items
    ∙ frame_begins (plain_fun c.args.fun.now) c.args.args (plain_rest c.in_ok-rest.rest) c.in_ok-rest.ensures
