use Rattle.std.proofs.Common.{◌≡◌, ◌++◌, List, [], ◌∷◌, length, OnOk, sym, ap, ◌∙◌, subst}
use Rattle.mz_tree.specs.View.{plain_body, plain_op, plain_command, plain_commands, plain_case, plain_cases, plain_atoms}
use Rattle.mz_tree.specs.Code.{commands_of, cases_of}
use Rattle.mz_tree.specs.declared.code.Case.{Case as CodeCase, out-Case}
use Rattle.mz_tree.proofs.CodeViews.{plain_body_is, plain_match, plain_case_is, result_of_body}
use Rattle.mz_words.specs.declared.code.Instr.{Instr}
use Rattle.mz_words.specs.declared.code.Act.{Act}
use Rattle.mz_words.specs.declared.code.Act.TheVariants.{Copy, Jump}
use Rattle.mz_lower.specs.Layout.{lay_body, lay_op, lay_commands, lay_cases, lay_branch, lay_match, lay_case, instr}
use Rattle.mz_lower.proofs.Emitted.{next_of, on_ok, branch_laid, command_laid, case_laid, if_laid}
use Rattle.mz_lower.proofs.emitting.+bodies.Goals as goal

pub emit_body-returns : goal.emit_body-returns
emit_body-returns t c =
    subst (λ (l : List Instr). OnOk c.emit_commands.result (c.emit_commands.new.code ≡ c.args.code.now ++ l))
    (ap (λ cs. lay_commands (length c.args.code.now) (commands_of (plain_commands cs))) c.as_slice.ensures ∙ sym (ap (lay_body (length c.args.code.now)) (plain_body_is c.args.body.now)))
    c.emit_commands.ensures

pub emit_branch-returns : goal.emit_branch-returns
emit_branch-returns t c = on_ok c.put-2.result _ _
    (λ e. branch_laid c.args.code.now (lay_body (length c.args.code.now) (plain_body c.args.body.now)) _ _ _ _ _ c.in_ok-emit_body.ensures c.in_ok-put.ensures e
    ∙ ap (λ x. c.args.code.now ++ (lay_body (length c.args.code.now) (plain_body c.args.body.now) ++ instr c.args.place (Copy c.args.to x) ∷ instr c.args.place (Jump c.args.end) ∷ [])) (sym (result_of_body c.args.body.now)))
    c.put-2.ensures

pub emit_cases-loop-i-preserved : goal.emit_cases-loop-i-preserved
emit_cases-loop-i-preserved t c =
    case_laid c.loop-i.code _ c.args.to c.args.place c.args.end (plain_case c.index-cases-i.result) _
    (c.in_ok-emit_branch.ensures
    ∙ ap (λ (x : CodeCase). c.loop-i.code ++ lay_branch (length c.loop-i.code) c.args.to c.args.place c.args.end (plain_body (out-Case x).body)) (sym c.index-cases-i.is)
    ∙ sym (ap (λ k. c.loop-i.code ++ lay_case (length c.loop-i.code) c.args.to c.args.place c.args.end k) (plain_case_is c.index-cases-i.result)))
    ∙ ap (λ cs. c.loop-i.code ++ lay_cases (length c.loop-i.code) c.args.to c.args.place c.args.end (cases_of cs)) (sym (next_of plain_case c.args.cases.now c.loop-i.i c.index-cases-i.result c.loop-i-test.true c.index-cases-i.is))
    ∙ c.loop-i.invariant

pub emit_commands-loop-i-preserved : goal.emit_commands-loop-i-preserved
emit_commands-loop-i-preserved t c =
    command_laid c.loop-i.code _ (plain_command c.index-commands-i.result) _ c.in_ok-emit_command.ensures
    ∙ ap (λ cs. c.loop-i.code ++ lay_commands (length c.loop-i.code) (commands_of cs)) (sym (next_of plain_command c.args.commands.now c.loop-i.i c.index-commands-i.result c.loop-i-test.true c.index-commands-i.is))
    ∙ c.loop-i.invariant

pub emit_op-returns-in_ok-emit_branch-in-If : goal.emit_op-returns-in_ok-emit_branch-in-If
emit_op-returns-in_ok-emit_branch-in-If t c = on_ok c.emit_branch-in-If.result _ _
    (λ e. if_laid c.args.code.now _ _ _ c.args.to c.in-If.test c.in_ok-halves-in-If.halves.zero c.in_ok-halves-in-If.halves.end c.args.place (plain_body c.in-If.yes) (plain_body c.in-If.other) (plain_atoms c.in-If.giving)
    c.in_ok-halves-in-If.ensures.zero c.in_ok-halves-in-If.ensures.end
    (c.in_ok-put-in-If.ensures ∙ ap (λ (a : Act). c.args.code.now ++ instr c.args.place a ∷ []) c.branch-test.ensures) c.in_ok-emit_branch-in-If.ensures e
    ∙ sym (ap (λ op. c.args.code.now ++ lay_op (length c.args.code.now) c.args.to c.args.place (plain_op op)) c.in-If.is))
    c.emit_branch-in-If.ensures

pub emit_op-returns-in-Match : goal.emit_op-returns-in-Match
emit_op-returns-in-Match t c =
    subst (λ (l : List Instr). OnOk c.emit_match.result (c.emit_match.new.code ≡ c.args.code.now ++ l))
    (ap (λ cs. lay_match (length c.args.code.now) c.args.to c.args.place c.in-Match.block (cases_of (plain_cases cs))) c.as_slice-in-Match.ensures
    ∙ sym (ap (λ op. lay_op (length c.args.code.now) c.args.to c.args.place (plain_op op)) c.in-Match.is ∙ ap (lay_op (length c.args.code.now) c.args.to c.args.place) (plain_match c.in-Match.block c.in-Match.variety c.in-Match.cases c.in-Match.giving)))
    c.emit_match.ensures
