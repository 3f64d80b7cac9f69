use Rattle.std.proofs.Common.{arith, length}
use Rattle.mz_tree.specs.View.{plain_cases}
use Rattle.mz_flow.specs.Branches.{cases_at}
use Rattle.mz_flow.proofs.CaseCounts.{counted, passed}
use Rattle.mz_flow.proofs.walking.count_at.Goals as goal
use Rattle.mz_flow.proofs.walking.count_at.Goals.{then-cases-i, else-cases-i}

pub loop-i-preserved : goal.loop-i-preserved
loop-i-preserved c = elim c.if-cases-i.branch [
  | then-cases-i w ↦ (omega (arith, c.loop-i.invariant.0, w.count-is), counted c.args.cases.now c.loop-i.i c.args.con c.loop-i.count c.if-cases-i.count (length (cases_at c.args.con (plain_cases c.args.cases.now))) c.index-cases-i.result c.loop-i-test.true w.if-cases-i.true w.count-is c.loop-i.invariant.1)
  | else-cases-i w ↦ (omega (arith, c.loop-i.invariant.0, w.count-is), passed c.args.cases.now c.loop-i.i c.args.con c.loop-i.count c.if-cases-i.count (length (cases_at c.args.con (plain_cases c.args.cases.now))) c.index-cases-i.result c.loop-i-test.true w.if-cases-i.false w.count-is c.loop-i.invariant.1)
]
