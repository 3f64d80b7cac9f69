use Rattle.std.proofs.Common.{◌≡◌, drop, slice_get}
use Rattle.mz_tree.specs.View.{plain_cases}
use Rattle.mz_flow.specs.Branches.{cases_at}
use Rattle.mz_flow.proofs.walking.case_at.Given as goal

abbrev pub invariant-loop-i : goal.invariant-loop-i
invariant-loop-i l = slice_get (cases_at l.con (plain_cases l.cases)) l.number ≡ slice_get (cases_at l.con (plain_cases (drop l.i l.cases))) l.left
