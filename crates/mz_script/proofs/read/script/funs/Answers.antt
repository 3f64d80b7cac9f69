use Rattle.std.proofs.Common.{[], ◌∷◌, ◌++◌, map, drop, ◌+◌, Ok, Err, sym, ap, ◌∙◌, arith}
use Rattle.std.proofs.lemmas.Result.{err_from_is_err_and}
use Rattle.mz_grammar.proofs.Loops.{with_front}
use Rattle.mz_tree.specs.View.{plain_fun, plain_program}
use Rattle.mz_deriv.specs.View.{plain_script}
use Rattle.mz_script.specs.Cutting.{lines}
use Rattle.mz_script.specs.ReadLines.{piece_of}
use Rattle.mz_script.specs.Reading.{funs_by}
use Rattle.mz_script.specs.Stops.{cause}
use Rattle.mz_script.proofs.Spelling.{map_append}
use Rattle.mz_script.proofs.Bodies.{stops_same, hands_on}
use Rattle.mz_script.proofs.Functions.{next_funs, no_funs, fun_read, fun_stops, funs_done}
use Rattle.mz_script.proofs.read.script.funs.Goals as goal

pub returns-in_err-script : goal.returns-in_err-script
returns-in_err-script c =
    let p = err_from_is_err_and c.from_residual.result c.from_residual.ensures.1 in
    let s = cause c.in_err-script.field-0.0 in
    let next = next_funs c.args.funs.now c.loop-i.i c.index-funs-i.result c.loop-i-test.true c.index-funs-i.is in
    hands_on _ c.from_residual.result c.in_err-script.field-0.0 _ (p.1 ∙ ap Err p.2)
    (stops_same s _ _ (ap (λ l. with_front (map plain_script c.loop-i.scripts) (funs_by (piece_of (plain_program c.args.program.now)) l (lines c.loop-i.rest.now))) (sym next) ∙ c.loop-i.invariant)
    (fun_stops (piece_of (plain_program c.args.program.now)) _ _ (map plain_script c.loop-i.scripts) s (lines c.loop-i.rest.now) c.in_err-script.ensures))

pub loop-i-preserved : goal.loop-i-preserved
loop-i-preserved c =
    let next = next_funs c.args.funs.now c.loop-i.i c.index-funs-i.result c.loop-i-test.true c.index-funs-i.is in
    let read = fun_read (piece_of (plain_program c.args.program.now)) _ (map plain_fun (drop (c.loop-i.i + 1) c.args.funs.now)) (map plain_script c.loop-i.scripts) _ (lines c.loop-i.rest.now) (lines c.in_ok-script.more.now) c.in_ok-script.ensures in
    ap (λ l. with_front l (funs_by (piece_of (plain_program c.args.program.now)) (map plain_fun (drop (c.loop-i.i + 1) c.args.funs.now)) (lines c.in_ok-script.more.now))) (ap (map plain_script) c.in_ok-push.ensures.ok ∙ map_append plain_script c.loop-i.scripts _)
    ∙ sym read ∙ ap (λ l. with_front (map plain_script c.loop-i.scripts) (funs_by (piece_of (plain_program c.args.program.now)) l (lines c.loop-i.rest.now))) (sym next) ∙ c.loop-i.invariant

pub returns : goal.returns
returns c =
    let none = no_funs c.args.funs.now c.loop-i.i (omega arith) in
    sym c.loop-i.invariant ∙ ap (λ l. with_front (map plain_script c.loop-i.scripts) (funs_by (piece_of (plain_program c.args.program.now)) l (lines c.loop-i.rest.now))) none ∙ funs_done (piece_of (plain_program c.args.program.now)) (map plain_script c.loop-i.scripts) (lines c.loop-i.rest.now)
