use Rattle.std.proofs.Common.{sym, ap, ◌∙◌, subst, IfOk}
use Rattle.mz_tree.specs.Code.{Op, Match_op, Call_op, cases_of}
use Rattle.mz_tree.specs.View.{plain_op, plain_atoms, plain_cases, plain_program}
use Rattle.mz_tree.proofs.CodeViews.{plain_match}
use Rattle.mz_named.specs.Planning.{Plans}
use Rattle.mz_named.proofs.planning.plan.Goals as goal

pub returns-in-If-clause-plans : goal.returns-in-If-clause-plans
returns-in-If-clause-plans c =
    subst (λ (o : Op). IfOk c.choose.result (λ plan. Plans (plain_program c.args.program.now) c.args.cells.now.items c.args.prints.now c.args.values.now c.args.to o plan c.args.cells.now.items c.args.prints.now))
    (sym (ap plain_op c.in-If.is))
    (c.choose.ensures (plain_program c.args.program.now) c.args.cells.now.items c.args.prints.now (plain_atoms c.in-If.giving))

pub returns-in-Match-clause-plans : goal.returns-in-Match-clause-plans
returns-in-Match-clause-plans c =
    subst (λ (o : Op). IfOk c.select.result (λ plan. Plans (plain_program c.args.program.now) c.args.cells.now.items c.args.prints.now c.args.values.now c.args.to o plan c.args.cells.now.items c.args.prints.now))
    (ap (λ l. Match_op c.in-Match.block c.in-Match.variety (cases_of (plain_cases l)) (plain_atoms c.in-Match.giving)) c.as_slice.ensures
    ∙ sym (ap plain_op c.in-Match.is ∙ plain_match c.in-Match.block c.in-Match.variety c.in-Match.cases c.in-Match.giving))
    (c.select.ensures (plain_program c.args.program.now) c.args.prints.now c.in-Match.variety (plain_atoms c.in-Match.giving))

pub returns-in-Call-clause-plans : goal.returns-in-Call-clause-plans
returns-in-Call-clause-plans c =
    subst (λ (o : Op). IfOk c.call.result (λ plan. Plans (plain_program c.args.program.now) c.args.cells.now.items c.args.prints.now c.args.values.now c.args.to o plan c.args.cells.now.items c.args.prints.now))
    (ap (Call_op c.in-Call.callee) c.as_slice-in-Call.ensures ∙ sym (ap plain_op c.in-Call.is))
    (c.call.ensures c.args.cells.now.items c.args.prints.now)

pub returns-in-Spawn-clause-plans : goal.returns-in-Spawn-clause-plans
returns-in-Spawn-clause-plans c =
    subst (λ (o : Op). IfOk c.spawn.result (λ plan. Plans (plain_program c.args.program.now) c.args.cells.now.items c.args.prints.now c.args.values.now c.args.to o plan c.args.cells.now.items c.args.prints.now))
    (sym (ap plain_op c.in-Spawn.is))
    (c.spawn.ensures c.args.cells.now.items c.args.prints.now)
