use Rattle.std.proofs.Common.{◌≡◌, drop}
use Rattle.std.specs.List.{list_all}
use Rattle.mz_scope.specs.Types.{is_among, names_in}
use Rattle.mz_scope.proofs.fields.are_all_among.Given as goal

abbrev pub invariant-loop-i : goal.invariant-loop-i
invariant-loop-i l = list_all (is_among (names_in l.others)) (drop l.i (names_in l.names)) ≡ list_all (is_among (names_in l.others)) (names_in l.names)
