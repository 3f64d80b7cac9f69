use Rattle.std.proofs.Common.{◌≡◌, take, map}
use Rattle.mz_deriv.specs.Walks.{in_place_of}
use Rattle.mz_elab.proofs.values.names_with.Given as goal

abbrev pub invariant-loop-i : goal.invariant-loop-i
invariant-loop-i l = l.done ≡ map (in_place_of l.old l.new) (take l.i l.names)
