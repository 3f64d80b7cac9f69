use Rattle.std.proofs.Common.{◌≡◌, ◌+◌, ◌-◌, length, ap, arith}
use Rattle.mz_tree.specs.View.{plain_atom}
use Rattle.mz_view.specs.Spots.{names_in_atom}
use Rattle.mz_view.proofs.Spotted.{put_at, put_next, put_lock, put_block}
use Rattle.mz_goal.proofs.Listed.{got}
use Rattle.mz_goal.proofs.listing.+putting.Goals as goal

pub put_in_atoms-returns-then-left-len : goal.put_in_atoms-returns-then-left-len
put_in_atoms-returns-then-left-len t c =
    let names = names_in_atom (plain_atom c.index-atoms-i.result) in
    let long : length c.in_ok-names.names ≡ length names = ap length c.in_ok-names.ensures in
    let g = got names c.loop-i.left (omega (arith, long)) in
    put_at c.args.atoms.now c.in_ok-all.all c.set.new.self c.loop-i.i c.args.spot c.loop-i.left c.args.to g.0 c.index-atoms-i.result c.in_ok-put_in_atom.field-0 c.loop-i-test.true c.index-atoms-i.is c.loop-i.invariant g.1 c.in_ok-put_in_atom.ensures c.in_ok-all.ensures c.set.ensures

pub put_in_atoms-loop-i-preserved : goal.put_in_atoms-loop-i-preserved
put_in_atoms-loop-i-preserved t c =
    let names = names_in_atom (plain_atom c.index-atoms-i.result) in
    let long : length c.in_ok-names.names ≡ length names = ap length c.in_ok-names.ensures in
    let past : c.loop-i.left ≡ length names + (c.loop-i.left - c.len-in-loop-i.result) = omega (arith, long) in
    put_next c.args.atoms.now c.loop-i.i c.args.spot c.loop-i.left (c.loop-i.left - c.len-in-loop-i.result) c.index-atoms-i.result c.loop-i-test.true c.index-atoms-i.is c.loop-i.invariant past

pub put_in_type-returns-in_ok-put_in_names-in-Block : goal.put_in_type-returns-in_ok-put_in_names-in-Block
put_in_type-returns-in_ok-put_in_names-in-Block t c = put_block c.in-Block.fields c.in_ok-put_in_names-in-Block.field-0 c.in-Block.con c.args.spot c.args.to c.in-Block.adopts c.args.ty.now c.in-Block.is c.in_ok-put_in_names-in-Block.ensures

pub put_in_type-returns-in_ok-put_in_atoms-in-Lock : goal.put_in_type-returns-in_ok-put_in_atoms-in-Lock
put_in_type-returns-in_ok-put_in_atoms-in-Lock t c = put_lock c.in-Lock.atoms c.as_slice.result.now c.in_ok-put_in_atoms-in-Lock.field-0 c.args.ty.now c.args.spot c.args.to c.as_slice.ensures c.in-Lock.is c.in_ok-put_in_atoms-in-Lock.ensures
