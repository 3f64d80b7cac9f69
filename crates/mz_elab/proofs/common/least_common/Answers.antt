use Rattle.std.proofs.lemmas.Option.{slice_get-get_or}
use Rattle.mz_elab.proofs.EachClass.{best_next}
use Rattle.mz_elab.proofs.common.least_common.Goals as goal

pub loop-i-preserved : goal.loop-i-preserved
loop-i-preserved c = best_next c.args.bound.now _ c.loop-i.i _ _ _ c.loop-i.invariant (slice_get-get_or c.args.bound.now c.loop-i.i _ c.loop-i-test.true) c.in_ok-best.ensures
