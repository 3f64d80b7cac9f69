use Rattle.std.proofs.Common.{◌≡◌, ◌+◌, ◌++◌, drop}
use Rattle.mz_tree.specs.View.{plain_cases}
use Rattle.mz_tree.specs.Code.{cases_of}
use Rattle.mz_lower.specs.Layout.{cons_in, targets_in, size_cases}
use Rattle.mz_lower.proofs.emitting.targets_of.Given as goal

abbrev pub invariant-loop-i : goal.invariant-loop-i
invariant-loop-i l =
    (l.cons ++ cons_in (cases_of (plain_cases (drop l.i l.cases))) ≡ cons_in (cases_of (plain_cases l.cases)))
    × (l.targets ++ targets_in l.end (cases_of (plain_cases (drop l.i l.cases))) ≡ targets_in l.first (cases_of (plain_cases l.cases)))
    × (l.end + size_cases (cases_of (plain_cases (drop l.i l.cases))) ≡ l.first + size_cases (cases_of (plain_cases l.cases)))
