use Rattle.std.proofs.Common.{◌≡◌, drop, map}
use Rattle.mz_grammar.proofs.Loops.{with_front}
use Rattle.mz_tree.specs.View.{plain_fun, plain_program}
use Rattle.mz_deriv.specs.View.{plain_script}
use Rattle.mz_script.specs.Cutting.{lines}
use Rattle.mz_script.specs.ReadLines.{piece_of}
use Rattle.mz_script.specs.Reading.{funs_by}
use Rattle.mz_script.proofs.read.script.funs.Given as goal

-- the scripts so far, before those of the functions that are left
abbrev pub invariant-loop-i : goal.invariant-loop-i
invariant-loop-i l = with_front (map plain_script l.scripts) (funs_by (piece_of (plain_program l.program)) (map plain_fun (drop l.i l.funs)) (lines l.rest)) ≡ funs_by (piece_of (plain_program l.program)) (map plain_fun l.funs) (lines l.bytes)
