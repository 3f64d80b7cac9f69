use Rattle.std.proofs.Common.{◌<◌, length, get_or, arith}
use Rattle.std.proofs.lemmas.Option.{slice_get-get_or}
use Rattle.mz_tree.specs.View.{plain_atom}
use Rattle.mz_elab.proofs.Shared.{outs_next}
use Rattle.mz_elab.proofs.sharing.take_out_all.Goals as goal

pub loop-k-preserved : goal.loop-k-preserved
loop-k-preserved c =
    let h : c.loop-k.k < length c.loop-k.ends = omega (arith, c.loop-k-test.true, c.loop-k.invariant.many) in
    outs_next (plain_atom c.args.atom.now) c.args.ends.now c.loop-k.ends c.loop-k.k (get_or c.loop-k.ends c.loop-k.k c.index-ends-k.result) c.take_out.new.end c.loop-k.invariant h (slice_get-get_or c.loop-k.ends c.loop-k.k c.index-ends-k.result h) c.take_out.ensures
