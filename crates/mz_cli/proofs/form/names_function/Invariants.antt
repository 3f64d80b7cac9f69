use Rattle.std.proofs.Common.{◌≡◌, map, drop}
use Rattle.std.specs.List.{list_any}
use Rattle.mz_tree.specs.Code.{Command, op_of, commands_in}
use Rattle.mz_tree.specs.Programs.{Fun}
use Rattle.mz_tree.specs.View.{plain_fun}
use Rattle.mz_cli.specs.FirstForm.{is_function}
use Rattle.mz_cli.proofs.form.names_function.Given as goal

abbrev pub invariant-loop-i : goal.invariant-loop-i
invariant-loop-i l = list_any (λ (f : Fun). list_any (λ (c : Command). is_function (op_of c)) (commands_in f.body)) (map plain_fun l.functions) ≡ list_any (λ (f : Fun). list_any (λ (c : Command). is_function (op_of c)) (commands_in f.body)) (map plain_fun (drop l.i l.functions))
