use Rattle.std.proofs.Common.{map, sym, ap, ◌∙◌}
use Rattle.std.specs.List.{list_any}
use Rattle.mz_tree.specs.Code.{Command, op_of}
use Rattle.mz_tree.specs.View.{plain_op, plain_command}
use Rattle.mz_tree.specs.declared.code.Command.{Command as CodeCommand}
use Rattle.mz_tree.proofs.CodeViews.{commands_in_body}
use Rattle.mz_cli.specs.FirstForm.{is_function}
use Rattle.mz_cli.proofs.Passing.{one_passes, none_passes}
use Rattle.mz_cli.proofs.form.has_function.Goals as goal

pub returns-then-is_function : goal.returns-then-is_function
returns-then-is_function c =
    let test = λ (k : Command). is_function (op_of k) in
    sym (ap (list_any test) (commands_in_body c.args.body.now) ∙ ap (λ l. list_any test (map plain_command l)) (sym c.as_slice-commands.ensures) ∙ one_passes test plain_command c.as_slice-commands.result.now c.loop-i.i c.loop-i.invariant c.index-commands-i.result c.loop-i-test.true c.index-commands-i.is (ap (λ (k : CodeCommand). is_function (plain_op k.op)) c.index-commands-i.is ∙ sym c.if-is_function.ensures))

pub returns : goal.returns
returns c =
    let test = λ (k : Command). is_function (op_of k) in
    sym (ap (list_any test) (commands_in_body c.args.body.now) ∙ ap (λ l. list_any test (map plain_command l)) (sym c.as_slice-commands.ensures) ∙ none_passes test plain_command c.as_slice-commands.result.now c.loop-i.i c.loop-i.invariant c.loop-i-test.false)
