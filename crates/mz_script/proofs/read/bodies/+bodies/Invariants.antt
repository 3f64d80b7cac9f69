use Rattle.std.proofs.Common.{◌≡◌, map, drop}
use Rattle.mz_grammar.proofs.Loops.{with_front}
use Rattle.mz_tree.specs.Code.{cases_of, commands_of}
use Rattle.mz_tree.specs.View.{plain_cases, plain_commands}
use Rattle.mz_script.specs.Cutting.{lines}
use Rattle.mz_script.specs.ReadLines.{piece_of}
use Rattle.mz_tree.specs.View.{plain_program}
use Rattle.mz_deriv.specs.View.{plain_item, plain_script_case}
use Rattle.mz_script.specs.Reading.{cases_by, commands_by}
use Rattle.mz_script.specs.Places.{walked_of}
use Rattle.mz_script.proofs.CaseLoops.{with_cases}
use Rattle.mz_script.proofs.read.bodies.+bodies.Given as goal

-- the items so far, before those of the commands that are left
abbrev pub invariant-commands-loop-i : goal.invariant-commands-loop-i
invariant-commands-loop-i l = with_front (map plain_item l.items) (commands_by (piece_of (plain_program l.program)) (commands_of (plain_commands (drop l.i l.commands))) (lines l.rest)) ≡ commands_by (piece_of (plain_program l.program)) (commands_of (plain_commands l.commands)) (lines l.bytes)

-- the scripts so far, before those of the cases that are left
abbrev pub invariant-some_cases-loop-i : goal.invariant-some_cases-loop-i
invariant-some_cases-loop-i l =
    with_cases (map plain_script_case l.scripts) (cases_by (piece_of (plain_program l.program)) l.numbered (walked_of l.walked) (cases_of (plain_cases (drop l.i l.cases))) (lines l.rest))
    ≡ cases_by (piece_of (plain_program l.program)) l.numbered (walked_of l.walked) (cases_of (plain_cases l.cases)) (lines l.bytes)
