use Rattle.std.proofs.Common.{◌≡◌, ◌++◌, map, drop}
use Rattle.mz_tree.specs.View.{plain_program}
use Rattle.mz_deriv.specs.Scripts.{script_cases_of}
use Rattle.mz_deriv.specs.View.{plain_item, plain_script_cases}
use Rattle.mz_script.specs.Pieces.{body_pieces, case_pieces}
use Rattle.mz_script.specs.Parts.{lines_text}
use Rattle.mz_script.proofs.print.+bodies.Given as goal

abbrev pub invariant-body-loop-i : goal.invariant-body-loop-i
invariant-body-loop-i l = l.out.items ++ lines_text (plain_program l.program) (body_pieces (map plain_item (drop l.i l.items))) ≡ l.fn.out.items ++ lines_text (plain_program l.program) (body_pieces (map plain_item l.items))

abbrev pub invariant-branches-loop-k : goal.invariant-branches-loop-k
invariant-branches-loop-k l = l.out.items ++ lines_text (plain_program l.program) (case_pieces (script_cases_of (plain_script_cases (drop l.k l.cases)))) ≡ l.fn.out.items ++ lines_text (plain_program l.program) (case_pieces (script_cases_of (plain_script_cases l.cases)))
