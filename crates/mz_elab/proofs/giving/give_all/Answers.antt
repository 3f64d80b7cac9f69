use Rattle.mz_elab.proofs.AllGiving.{at_index, giving_start, giving_next}
use Rattle.mz_elab.proofs.giving.give_all.Goals as goal

pub loop-i-init : goal.loop-i-init
loop-i-init c = giving_start _ _ _ _ _

pub loop-i-preserved : goal.loop-i-preserved
loop-i-preserved c = giving_next _ _ _ _ _ c.loop-i.i _ _ _ c.loop-i.invariant (at_index _ _ _ c.loop-i-test.true c.index-giving-i.is) c.loop-i-test.true c.in_ok-give.ensures
