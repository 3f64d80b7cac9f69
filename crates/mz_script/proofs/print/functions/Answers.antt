use Rattle.std.proofs.Common.{◌++◌, map, arith}
use Rattle.mz_tree.specs.View.{plain_fun, plain_program}
use Rattle.mz_deriv.specs.View.{plain_script}
use Rattle.mz_script.specs.Pieces.{fun_pieces}
use Rattle.mz_script.specs.Parts.{lines_text}
use Rattle.mz_script.proofs.Printing.{funs_done}
use Rattle.mz_script.proofs.print.functions.Goals as goal

pub returns : goal.returns
returns c =
    let p = plain_program c.args.program.now in
    funs_done p c.args.funs.now c.args.scripts.now c.loop-k.k c.loop-k.out.items (c.args.out.now.items ++ lines_text p (fun_pieces (map plain_fun c.args.funs.now) (map plain_script c.args.scripts.now))) (omega arith) c.loop-k.invariant
