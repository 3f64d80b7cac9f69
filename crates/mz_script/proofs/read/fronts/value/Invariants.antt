use Rattle.std.proofs.Common.{◌≡◌, drop}
use Rattle.mz_script.specs.Fronts.{digits_from}
use Rattle.mz_script.proofs.read.fronts.value.Given as goal

-- the digits so far, with those that are left, have the value of all
abbrev pub invariant-loop-digit : goal.invariant-loop-digit
invariant-loop-digit l = digits_from l.value (drop l.digit-index l.digits) ≡ digits_from 0 l.digits
