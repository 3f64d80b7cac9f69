use Rattle.mz_elab.proofs.MadeNames.{adds_made}
use Rattle.mz_elab.proofs.naming.add_one.Goals as goal

pub returns-in_ok-push : goal.returns-in_ok-push
returns-in_ok-push c = adds_made c.args.name c.args.names.now c.push.new.self c.if-name-ge256.true c.in_ok-push.ensures.ok
