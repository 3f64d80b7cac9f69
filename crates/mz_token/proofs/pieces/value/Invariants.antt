use Rattle.std.proofs.Common.{◌≡◌, drop}
use Rattle.mz_token.specs.Shapes.{value_from, value_of}
use Rattle.mz_token.proofs.pieces.value.Given as goal

abbrev pub invariant-loop-digit : goal.invariant-loop-digit
invariant-loop-digit l = value_from l.value (drop l.digit-index l.digits) ≡ value_of l.digits
