use Rattle.std.proofs.Common.{◌≡◌, ◌+◌, IfOk, sym, ap, ◌∙◌, subst}
use Rattle.mz_tree.specs.View.{plain_op, plain_commands, plain_cases}
use Rattle.mz_tree.specs.Code.{commands_of, cases_of}
use Rattle.mz_tree.proofs.CodeViews.{plain_body_is, plain_match}
use Rattle.mz_lower.specs.Layout.{size_body, size_op, size_commands, size_cases}
use Rattle.mz_lower.proofs.counting.+counts.Goals as goal

pub count_body-returns : goal.count_body-returns
count_body-returns t c =
    subst (λ m. IfOk c.count_commands.result (λ n. n ≡ m))
    (ap (λ cs. size_commands (commands_of (plain_commands cs))) c.as_slice.ensures ∙ sym (ap size_body (plain_body_is c.args.body.now)))
    c.count_commands.ensures

pub count_op-returns-in_ok-count_cases-in-Match : goal.count_op-returns-in_ok-count_cases-in-Match
count_op-returns-in_ok-count_cases-in-Match t c =
    subst (λ m. IfOk c.plus-in-Match.result (λ n. n ≡ m))
    (ap (λ n. 1 + n) (c.in_ok-count_cases-in-Match.ensures ∙ ap (λ cs. size_cases (cases_of (plain_cases cs))) c.as_slice.ensures)
    ∙ sym (ap (λ op. size_op (plain_op op)) c.in-Match.is ∙ ap size_op (plain_match c.in-Match.block c.in-Match.variety c.in-Match.cases c.in-Match.giving)))
    c.plus-in-Match.ensures
