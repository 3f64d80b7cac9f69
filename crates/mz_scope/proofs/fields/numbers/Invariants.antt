use Rattle.std.proofs.Common.{◌≡◌, take}
use Rattle.mz_names.specs.Fields.{numbers_in}
use Rattle.mz_scope.proofs.fields.numbers.Given as goal

abbrev pub invariant-loop-i : goal.invariant-loop-i
invariant-loop-i l = l.numbers ≡ take l.i (numbers_in l.names)
