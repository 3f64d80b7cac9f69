use Rattle.std.proofs.Common.{◌≡◌, ◌+◌, ◌≤◌, length, drop}
use Rattle.mz_tree.specs.View.{plain_cases}
use Rattle.mz_flow.specs.Branches.{cases_at}
use Rattle.mz_flow.proofs.walking.count_at.Given as goal

abbrev pub invariant-loop-i : goal.invariant-loop-i
invariant-loop-i l = (l.count ≤ l.i) × (length (cases_at l.con (plain_cases l.cases)) ≡ l.count + length (cases_at l.con (plain_cases (drop l.i l.cases))))
