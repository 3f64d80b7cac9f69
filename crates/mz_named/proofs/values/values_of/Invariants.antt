use Rattle.std.proofs.Common.{◌≡◌, take, map}
use Rattle.mz_named.specs.View.{value_in}
use Rattle.mz_named.proofs.values.values_of.Given as goal

abbrev pub invariant-loop-i : goal.invariant-loop-i
invariant-loop-i l = l.found ≡ map (value_in l.values) (take l.i l.names)
