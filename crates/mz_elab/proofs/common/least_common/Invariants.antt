use Rattle.std.proofs.Common.{take}
use Rattle.mz_elab.specs.Joining.{CommonOf, plain_ends}
use Rattle.mz_elab.proofs.common.least_common.Given as goal

abbrev pub invariant-loop-i : goal.invariant-loop-i
invariant-loop-i l = CommonOf l.best (take l.i l.bound) (plain_ends l.ends)
