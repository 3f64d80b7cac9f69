use Rattle.mz_elab.proofs.EachClass.{InFront}
use Rattle.mz_elab.proofs.common.in_each.Given as goal

abbrev pub invariant-loop-k : goal.invariant-loop-k
invariant-loop-k l = InFront l.name l.ends l.k
