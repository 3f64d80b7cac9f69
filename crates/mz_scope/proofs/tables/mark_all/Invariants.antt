use Rattle.std.proofs.Common.{◌≡◌, ℕ, List, drop}
use Rattle.mz_scope.specs.Types.{names_in}
use Rattle.mz_scope.specs.NameMaps.{found}
use Rattle.mz_scope.specs.Tables.{marked_all}
use Rattle.mz_scope.proofs.tables.mark_all.Given as goal

-- the marks so far, and then those of the rest, are all
abbrev pub invariant-loop-i : goal.invariant-loop-i
invariant-loop-i l = (field : List ℕ) → marked_all l.place (drop l.i (names_in l.fields)) field (found l.holders.first field) ≡ marked_all l.place (names_in l.fields) field (found l.fn.holders.first field)
