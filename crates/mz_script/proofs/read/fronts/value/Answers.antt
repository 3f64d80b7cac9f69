use Rattle.std.proofs.Common.{arith}
use Rattle.mz_script.proofs.ReadFronts.{digits_drop}
use Rattle.mz_script.proofs.read.fronts.value.Goals as goal

pub returns-in_default-clause-none : goal.returns-in_default-clause-none
returns-in_default-clause-none c = omega (arith, c.in_default.ensures, digits_drop c.loop-digit.value c.loop-digit.digit-index c.args.digits.now (omega arith), c.loop-digit.invariant)

pub returns-in_default-checked_add-clause-none : goal.returns-in_default-checked_add-clause-none
returns-in_default-checked_add-clause-none c = omega (arith, c.in_default-checked_add.ensures, c.in-Some.ensures, c.saturating_sub.ensures, c.from.ensures, digits_drop c.loop-digit.value c.loop-digit.digit-index c.args.digits.now (omega arith), c.loop-digit.invariant)
