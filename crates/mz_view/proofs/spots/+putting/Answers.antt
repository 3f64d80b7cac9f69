use Rattle.std.proofs.Common.{sym, ap, subst, ◌∙◌}
use Rattle.mz_view.proofs.Spotted.{put_at, put_next, put_past, put_lock, put_block}
use Rattle.mz_view.proofs.spots.+putting.Goals as goal

pub put_in_atoms-returns-in-At : goal.put_in_atoms-returns-in-At
put_in_atoms-returns-in-At t c = put_at c.args.atoms.now c.in_ok-all-in-At.all c.set.new.self c.loop-i.i c.args.spot c.loop-i.left c.args.to c.in-At.field-0 c.index-atoms-i.result c.in_ok-put_in_atom-in-At.field-0 c.loop-i-test.true c.index-atoms-i.is c.loop-i.invariant c.in-At.ensures c.in_ok-put_in_atom-in-At.ensures c.in_ok-all-in-At.ensures c.set.ensures

pub put_in_type-returns-in_ok-put_in_names-in-Block : goal.put_in_type-returns-in_ok-put_in_names-in-Block
put_in_type-returns-in_ok-put_in_names-in-Block t c = put_block c.in-Block.fields c.in_ok-put_in_names-in-Block.field-0 c.in-Block.con c.args.spot c.args.to c.in-Block.adopts c.args.ty.now c.in-Block.is c.in_ok-put_in_names-in-Block.ensures

pub put_in_type-returns-in_ok-put_in_atoms-in-Lock : goal.put_in_type-returns-in_ok-put_in_atoms-in-Lock
put_in_type-returns-in_ok-put_in_atoms-in-Lock t c = put_lock c.in-Lock.atoms c.as_slice.result.now c.in_ok-put_in_atoms-in-Lock.field-0 c.args.ty.now c.args.spot c.args.to c.as_slice.ensures c.in-Lock.is c.in_ok-put_in_atoms-in-Lock.ensures

pub put_in_atoms-loop-i-preserved : goal.put_in_atoms-loop-i-preserved
put_in_atoms-loop-i-preserved t c = put_next c.args.atoms.now c.loop-i.i c.args.spot c.loop-i.left c.in-Past.more c.index-atoms-i.result c.loop-i-test.true c.index-atoms-i.is c.loop-i.invariant c.in-Past.ensures

pub put_in_atoms-returns : goal.put_in_atoms-returns
put_in_atoms-returns t c = put_past c.args.atoms.now c.copy_atoms-2.result c.loop-i.i c.args.spot c.loop-i.left c.args.to c.loop-i-test.false c.loop-i.invariant c.copy_atoms-2.ensures
