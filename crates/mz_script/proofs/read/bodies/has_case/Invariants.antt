use Rattle.std.proofs.Common.{◌≡◌, drop}
use Rattle.mz_tree.specs.Code.{cases_of}
use Rattle.mz_tree.specs.View.{plain_cases}
use Rattle.mz_script.specs.Places.{has_case}
use Rattle.mz_script.proofs.read.bodies.has_case.Given as goal

-- there is one where there is one among those that are left
abbrev pub invariant-loop-i : goal.invariant-loop-i
invariant-loop-i l = has_case l.con (cases_of (plain_cases (drop l.i l.cases))) ≡ has_case l.con (cases_of (plain_cases l.cases))
