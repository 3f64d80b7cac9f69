use Rattle.std.proofs.Common.{sym, ◌∙◌}
use Rattle.mz_script.proofs.CaseLoops.{has_here, has_later}
use Rattle.mz_script.proofs.read.bodies.has_case.Goals as goal

pub returns-then-cases-i : goal.returns-then-cases-i
returns-then-cases-i c = sym (has_here c.args.cases.now c.loop-i.i c.args.con c.index-cases-i.result c.loop-i-test.true c.index-cases-i.is c.if-cases-i.true) ∙ c.loop-i.invariant

pub loop-i-preserved : goal.loop-i-preserved
loop-i-preserved c = sym (has_later c.args.cases.now c.loop-i.i c.args.con c.index-cases-i.result c.loop-i-test.true c.index-cases-i.is c.if-cases-i.false) ∙ c.loop-i.invariant
