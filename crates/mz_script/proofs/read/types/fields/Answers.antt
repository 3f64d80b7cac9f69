use Rattle.std.proofs.Common.{[], ◌∷◌, ◌++◌, map, drop, codes, ◌+◌, Ok, Err, sym, ap, ◌∙◌, arith}
use Rattle.std.proofs.lemmas.Result.{err_from_is_err_and}
use Rattle.mz_grammar.proofs.Loops.{with_front}
use Rattle.mz_tree.specs.View.{plain_field}
use Rattle.mz_tree.specs.declared.program.Field.{Field as CodeField}
use Rattle.mz_script.specs.ReadWords.{field_by, fields_at}
use Rattle.mz_script.specs.Stops.{cause}
use Rattle.mz_script.proofs.Bodies.{stops_same, hands_on}
use Rattle.mz_script.proofs.FieldLoops.{next_fields, no_fields, field_read, field_stops, fields_done}
use Rattle.mz_script.proofs.read.types.fields.Goals as goal

pub returns-in_err-name : goal.returns-in_err-name
returns-in_err-name c =
    let p = err_from_is_err_and c.from_residual.result c.from_residual.ensures.1 in
    let s = cause c.in_err-name.field-0.0 in
    let next = next_fields c.args.fields.now c.loop-i.i c.index-fields-i.result c.loop-i-test.true c.index-fields-i.is in
    hands_on _ c.from_residual.result c.in_err-name.field-0.0 _ (p.1 ∙ ap Err p.2)
    (stops_same s _ _ (ap (λ l. with_front c.loop-i.names (fields_at c.loop-i.before.now l c.loop-i.rest.now)) (sym next) ∙ c.loop-i.invariant)
    (field_stops c.loop-i.before.now (plain_field c.index-fields-i.result) (map plain_field (drop (c.loop-i.i + 1) c.args.fields.now)) c.loop-i.names s c.loop-i.rest.now
    (stops_same s _ _ (ap (λ n. field_by c.loop-i.before.now n c.loop-i.rest.now) (c.as_slice.ensures ∙ ap (λ (x : CodeField). x.name) (sym c.index-fields-i.is))) c.in_err-name.ensures)))

pub loop-i-preserved : goal.loop-i-preserved
loop-i-preserved c =
    let next = next_fields c.args.fields.now c.loop-i.i c.index-fields-i.result c.loop-i-test.true c.index-fields-i.is in
    let read = field_read c.loop-i.before.now (plain_field c.index-fields-i.result) (map plain_field (drop (c.loop-i.i + 1) c.args.fields.now)) c.loop-i.names _ c.loop-i.rest.now c.in_ok-name.more.now (ap (λ n. field_by c.loop-i.before.now n c.loop-i.rest.now) (sym (c.as_slice.ensures ∙ ap (λ (x : CodeField). x.name) (sym c.index-fields-i.is))) ∙ c.in_ok-name.ensures) in
    ap (λ l. with_front l (fields_at (codes "; ") (map plain_field (drop (c.loop-i.i + 1) c.args.fields.now)) c.in_ok-name.more.now)) c.in_ok-push.ensures.ok
    ∙ sym read ∙ ap (λ l. with_front c.loop-i.names (fields_at c.loop-i.before.now l c.loop-i.rest.now)) (sym next) ∙ c.loop-i.invariant

pub returns : goal.returns
returns c =
    let none = no_fields c.args.fields.now c.loop-i.i (omega arith) in
    sym c.loop-i.invariant ∙ ap (λ l. with_front c.loop-i.names (fields_at c.loop-i.before.now l c.loop-i.rest.now)) none ∙ fields_done c.loop-i.before.now c.loop-i.names c.loop-i.rest.now
