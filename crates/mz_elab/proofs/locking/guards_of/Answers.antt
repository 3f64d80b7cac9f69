use Rattle.mz_elab.proofs.Locks.{guards_these}
use Rattle.mz_elab.proofs.locking.guards_of.Goals as goal

pub returns-in-Lock : goal.returns-in-Lock
returns-in-Lock c = guards_these c.args.ty.now c.in-Lock.atoms c.copy.result c.in-Lock.is c.copy.ensures
