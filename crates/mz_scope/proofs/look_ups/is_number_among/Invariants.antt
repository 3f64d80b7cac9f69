use Rattle.std.proofs.Common.{◌≡◌, drop}
use Rattle.mz_scope.specs.Bodies.{is_number_among}
use Rattle.mz_scope.proofs.look_ups.is_number_among.Given as goal

-- what is left has it exactly where all of them do
abbrev pub invariant-loop-i : goal.invariant-loop-i
invariant-loop-i l = is_number_among l.numbers l.number ≡ is_number_among (drop l.i l.numbers) l.number
