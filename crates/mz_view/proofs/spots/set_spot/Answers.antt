use Rattle.std.proofs.Common.{sym, subst}
use Rattle.mz_view.specs.Rules.{OnLock, SetsSpot}
use Rattle.mz_view.specs.Answers.{Becomes}
use Rattle.mz_view.proofs.Spotted.{lock_atom}
use Rattle.mz_view.proofs.spots.set_spot.Goals as goal

pub set_lock-requires : goal.set_lock-requires
set_lock-requires c = lock_atom c.args.atom.now c.in-Has.name c.in-Has.ty c.in-Lock.atoms c.as_slice.result.now c.in-Has.is c.in-Lock.is c.as_slice.ensures

pub returns-in-Lock : goal.returns-in-Lock
returns-in-Lock c = subst (λ a. Becomes (λ which T. OnLock a (λ l p. SetsSpot c.args.state.now c.args.spot c.args.to l p T)) c.args.state.now c.set_lock.new.state c.set_lock.result) (sym (lock_atom c.args.atom.now c.in-Has.name c.in-Has.ty c.in-Lock.atoms c.as_slice.result.now c.in-Has.is c.in-Lock.is c.as_slice.ensures)) c.set_lock.ensures
