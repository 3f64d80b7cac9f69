use Rattle.std.proofs.Common.{◌≡◌, drop}
use Rattle.mz_tree.specs.View.{plain_cases}
use Rattle.mz_named.specs.Bodies.{body_for}
use Rattle.mz_named.proofs.finding.case_of.Given as goal

abbrev pub invariant-loop-i : goal.invariant-loop-i
invariant-loop-i l = body_for l.con (plain_cases l.cases) ≡ body_for l.con (plain_cases (drop l.i l.cases))
