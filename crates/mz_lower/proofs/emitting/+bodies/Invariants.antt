use Rattle.std.proofs.Common.{◌≡◌, ◌++◌, length, drop}
use Rattle.mz_tree.specs.View.{plain_commands, plain_cases}
use Rattle.mz_tree.specs.Code.{commands_of, cases_of}
use Rattle.mz_lower.specs.Layout.{lay_commands, lay_cases}
use Rattle.mz_lower.proofs.emitting.+bodies.Given as goal

abbrev pub invariant-emit_commands-loop-i : goal.invariant-emit_commands-loop-i
invariant-emit_commands-loop-i l =
    l.code ++ lay_commands (length l.code) (commands_of (plain_commands (drop l.i l.commands)))
    ≡ l.initial.code ++ lay_commands (length l.initial.code) (commands_of (plain_commands l.commands))

abbrev pub invariant-emit_cases-loop-i : goal.invariant-emit_cases-loop-i
invariant-emit_cases-loop-i l =
    l.code ++ lay_cases (length l.code) l.to l.place l.end (cases_of (plain_cases (drop l.i l.cases)))
    ≡ l.initial.code ++ lay_cases (length l.initial.code) l.to l.place l.end (cases_of (plain_cases l.cases))
