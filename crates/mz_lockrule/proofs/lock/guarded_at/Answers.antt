use Rattle.mz_lockrule.proofs.Guarding.{of_lock}
use Rattle.mz_lockrule.proofs.lock.guarded_at.Goals as goal

pub returns-in-Lock : goal.returns-in-Lock
returns-in-Lock c = of_lock c.args.ty.now c.in-Lock.guarded c.in-Lock.is
