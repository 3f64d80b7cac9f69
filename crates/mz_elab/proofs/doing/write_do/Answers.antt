use Rattle.mz_elab.proofs.DoneItems.{done}
use Rattle.mz_elab.proofs.doing.write_do.Goals as goal

pub returns : goal.returns
returns c = done c.args.items.now c.push.new.self c.args.uses c.new.result c.new-2.result c.new.ensures c.new-2.ensures c.in_ok-push.ensures.ok
