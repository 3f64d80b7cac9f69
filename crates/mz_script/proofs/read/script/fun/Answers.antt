use Rattle.std.proofs.Common.{◌≡◌, Err, map, ap, ◌∙◌, sym}
use Rattle.std.proofs.lemmas.Result.{err_from_is_err_and}
use Rattle.mz_tree.specs.Code.{commands_of}
use Rattle.mz_tree.specs.View.{plain_commands, plain_fun, plain_program}
use Rattle.mz_tree.proofs.CodeViews.{plain_body_is}
use Rattle.mz_deriv.specs.View.{plain_item}
use Rattle.mz_script.specs.Cutting.{lines}
use Rattle.mz_script.specs.Places.{body_commands}
use Rattle.mz_script.specs.ReadLines.{piece_of}
use Rattle.mz_script.specs.Reading.{fun_at}
use Rattle.mz_script.specs.Stops.{cause}
use Rattle.mz_script.proofs.Bodies.{hands_on}
use Rattle.mz_script.proofs.Functions.{fun_done, fun_ends}
use Rattle.mz_script.proofs.read.script.fun.Goals as goal

pub returns-in_err-items : goal.returns-in_err-items
returns-in_err-items c =
    let piece = piece_of (plain_program c.args.program.now) in
    let p = err_from_is_err_and c.from_residual-in_err-items.result c.from_residual-in_err-items.ensures.1 in
    let s = cause c.in_err-items.field-0.0 in
    let same = ap body_commands (plain_body_is c.args.fun.now.body) ∙ ap (λ l. commands_of (plain_commands l)) (sym c.as_slice-2.ensures) in
    hands_on _ c.from_residual-in_err-items.result c.in_err-items.field-0.0 _ (p.1 ∙ ap Err p.2)
    (fun_ends piece (plain_fun c.args.fun.now) _ s (lines c.args.bytes.now) (lines c.in_ok-rest.rest.now) same (ap (λ l. fun_at piece l (lines c.args.bytes.now)) (sym c.as_slice.ensures) ∙ c.in_ok-rest.ensures) c.in_err-items.ensures)

pub returns : goal.returns
returns c =
    let piece = piece_of (plain_program c.args.program.now) in
    let same = ap body_commands (plain_body_is c.args.fun.now.body) ∙ ap (λ l. commands_of (plain_commands l)) (sym c.as_slice-2.ensures) in
    fun_done piece (plain_fun c.args.fun.now) _ (lines c.args.bytes.now) (lines c.in_ok-rest.rest.now) _ _ same (ap (λ l. fun_at piece l (lines c.args.bytes.now)) (sym c.as_slice.ensures) ∙ c.in_ok-rest.ensures) c.in_ok-items.ensures
