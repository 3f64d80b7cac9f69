use Rattle.std.proofs.Common.{sym, ap, subst}
use Rattle.mz_view.specs.Answers.{IsSpot}
use Rattle.mz_view.proofs.Spotted.{spot_found, spot_next, spot_past, lock_names}
use Rattle.mz_view.proofs.spots.+spots.Goals as goal

pub spot_in_atoms-returns-in-At : goal.spot_in_atoms-returns-in-At
spot_in_atoms-returns-in-At t c = spot_found c.args.atoms.now c.loop-i.i c.args.spot c.loop-i.left c.in-At.name c.index-atoms-i.result c.loop-i-test.true c.index-atoms-i.is c.in-At.ensures c.loop-i.invariant

pub spot_in_atoms-loop-i-preserved : goal.spot_in_atoms-loop-i-preserved
spot_in_atoms-loop-i-preserved t c = spot_next c.args.atoms.now c.loop-i.i c.args.spot c.loop-i.left c.in-Past.more c.index-atoms-i.result c.loop-i-test.true c.index-atoms-i.is c.in-Past.ensures c.loop-i.invariant

pub spot_in_atoms-returns : goal.spot_in_atoms-returns
spot_in_atoms-returns t c = spot_past c.args.atoms.now c.loop-i.i c.args.spot c.loop-i.left c.loop-i-test.false c.loop-i.invariant

pub spot_in_type-returns-in-Lock : goal.spot_in_type-returns-in-Lock
spot_in_type-returns-in-Lock t c = subst (λ ys. IsSpot c.spot_in_atoms.result ys c.args.spot) (lock_names c.in-Lock.atoms c.as_slice-in-Lock.result.now c.args.ty.now c.as_slice-in-Lock.ensures c.in-Lock.is) c.spot_in_atoms.ensures
