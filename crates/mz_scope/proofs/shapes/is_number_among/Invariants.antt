use Rattle.std.proofs.Common.{◌≡◌, drop}
use Rattle.mz_scope.specs.Bodies.{is_number_among}
use Rattle.mz_scope.proofs.shapes.is_number_among.Given as goal

abbrev pub invariant-loop-i : goal.invariant-loop-i
invariant-loop-i l = is_number_among (drop l.i l.numbers) l.number ≡ is_number_among l.numbers l.number
