use Rattle.std.proofs.Common.{◌≡◌, ◌+◌, drop}
use Rattle.mz_tree.specs.View.{plain_commands, plain_cases}
use Rattle.mz_tree.specs.Code.{commands_of, cases_of}
use Rattle.mz_lower.specs.Layout.{size_commands, size_cases}
use Rattle.mz_lower.proofs.counting.+counts.Given as goal

abbrev pub invariant-count_commands-loop-i : goal.invariant-count_commands-loop-i
invariant-count_commands-loop-i l = l.total + size_commands (commands_of (plain_commands (drop l.i l.commands))) ≡ size_commands (commands_of (plain_commands l.commands))

abbrev pub invariant-count_cases-loop-i : goal.invariant-count_cases-loop-i
invariant-count_cases-loop-i l = l.total + size_cases (cases_of (plain_cases (drop l.i l.cases))) ≡ size_cases (cases_of (plain_cases l.cases))
