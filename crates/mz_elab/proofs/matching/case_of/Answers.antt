use Rattle.std.proofs.Common.{◌≡◌, sym, subst}
use Rattle.mz_tree.specs.declared.code.Case.{out-Case}
use Rattle.mz_elab.proofs.CaseAt.{case_next, case_found, case_missed}
use Rattle.mz_elab.proofs.matching.case_of.Goals as goal

pub returns-then-cases-i-clause-first : goal.returns-then-cases-i-clause-first
returns-then-cases-i-clause-first c = case_found c.args.cases.now c.args.con c.loop-i.i c.index-cases-i.result c.loop-i-test.true c.index-cases-i.is c.loop-i.invariant (subst (λ x. (out-Case x).con ≡ c.args.con) (sym c.index-cases-i.is) c.if-cases-i.true)

pub loop-i-preserved : goal.loop-i-preserved
loop-i-preserved c = case_next c.args.cases.now c.args.con c.loop-i.i c.index-cases-i.result c.loop-i-test.true c.index-cases-i.is c.loop-i.invariant (λ e. c.if-cases-i.false (subst (λ x. (out-Case x).con ≡ c.args.con) c.index-cases-i.is e))

pub unreachable-requires : goal.unreachable-requires
unreachable-requires c = case_missed c.args.cases.now c.args.con c.loop-i.i c.loop-i-test.false c.requires c.loop-i.invariant
