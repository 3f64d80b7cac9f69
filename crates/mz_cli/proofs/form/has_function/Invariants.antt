use Rattle.std.proofs.Common.{◌≡◌, map, drop}
use Rattle.std.specs.List.{list_any}
use Rattle.mz_tree.specs.Code.{Command, op_of}
use Rattle.mz_tree.specs.View.{plain_command}
use Rattle.mz_cli.specs.FirstForm.{is_function}
use Rattle.mz_cli.proofs.form.has_function.Given as goal

abbrev pub invariant-loop-i : goal.invariant-loop-i
invariant-loop-i l = list_any (λ (c : Command). is_function (op_of c)) (map plain_command l.commands) ≡ list_any (λ (c : Command). is_function (op_of c)) (map plain_command (drop l.i l.commands))
