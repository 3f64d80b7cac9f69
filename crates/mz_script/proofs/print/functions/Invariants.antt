use Rattle.std.proofs.Common.{◌≡◌, ◌++◌, map, drop}
use Rattle.mz_tree.specs.View.{plain_fun, plain_program}
use Rattle.mz_deriv.specs.View.{plain_script}
use Rattle.mz_script.specs.Pieces.{fun_pieces}
use Rattle.mz_script.specs.Parts.{lines_text}
use Rattle.mz_script.proofs.print.functions.Given as goal

abbrev pub invariant-loop-k : goal.invariant-loop-k
invariant-loop-k l = l.out.items ++ lines_text (plain_program l.program) (fun_pieces (map plain_fun (drop l.k l.funs)) (map plain_script (drop l.k l.scripts))) ≡ l.fn.out.items ++ lines_text (plain_program l.program) (fun_pieces (map plain_fun l.funs) (map plain_script l.scripts))
