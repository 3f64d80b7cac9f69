use Rattle.std.proofs.Common.{map, Ok, Err, sym, ap, subst, ◌∙◌}
use Rattle.std.proofs.lemmas.Result.{err_from_is_err_and}
use Rattle.mz_grammar.specs.Reading.{◌>>=◌}
use Rattle.mz_tree.specs.View.{plain_fun, plain_program}
use Rattle.mz_deriv.specs.View.{plain_script}
use Rattle.mz_script.specs.Cutting.{lines}
use Rattle.mz_script.specs.ReadLines.{piece_of}
use Rattle.mz_script.specs.Stops.{Gives, cause}
use Rattle.mz_script.specs.Reading.{funs_by, head_at, script_by}
use Rattle.mz_script.proofs.Bodies.{stops_same, stops_then, hands_on}
use Rattle.mz_script.proofs.Functions.{front_is}
use Rattle.mz_script.proofs.read.script.front.Goals as goal

pub returns-in_err-rest : goal.returns-in_err-rest
returns-in_err-rest c =
    let p = err_from_is_err_and c.from_residual.result c.from_residual.ensures.1 in
    let s = cause c.in_err-rest.field-0.0 in
    let piece = piece_of (plain_program c.args.program.now) in
    let funs = (plain_program c.args.program.now).funs in
    hands_on _ c.from_residual.result c.in_err-rest.field-0.0 _ (p.1 ∙ ap Err p.2)
    (stops_same s (head_at piece (lines c.args.bytes.now) >>= λ t. funs_by piece funs t.1) (script_by piece funs (lines c.args.bytes.now)) (sym (front_is piece funs (lines c.args.bytes.now)))
    (stops_then s (head_at piece (lines c.args.bytes.now)) (λ t. funs_by piece funs t.1) c.in_err-rest.ensures))

pub returns : goal.returns
returns c =
    let piece = piece_of (plain_program c.args.program.now) in
    let funs = (plain_program c.args.program.now).funs in
    subst (λ r. Gives (λ x. (map plain_script x.0, lines x.1.now)) c.funs.result r)
    (ap (λ l. funs_by piece (map plain_fun l) (lines c.in_ok-rest.rest.now)) c.as_slice.ensures ∙ sym (front_is piece funs (lines c.args.bytes.now) ∙ ap (λ r. r >>= λ t. funs_by piece funs t.1) c.in_ok-rest.ensures))
    c.funs.ensures
