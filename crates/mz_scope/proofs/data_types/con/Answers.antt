use Rattle.std.proofs.Common.{map, ap, ◌∙◌}
use Rattle.mz_tree.specs.View.{plain_field}
use Rattle.mz_scope.specs.Syntax.{FieldTree}
use Rattle.mz_scope.specs.Names.{numbered}
use Rattle.mz_scope.specs.Trees.{field_tree, con_tree}
use Rattle.mz_scope.specs.View.{made_of}
use Rattle.mz_scope.proofs.DataSteps.{first_con, con_came}
use Rattle.mz_scope.proofs.data_types.con.Goals as goal

pub returns : goal.returns
returns c =
    let g = c.args.source.now.globals.now in
    let bytes = c.args.source.now.text.now in
    con_came g c.args.variety c.args.number (con_tree bytes c.args.con.now) c.con_number.result c.in_ok-scope.scope (map (field_tree bytes) c.as_slice-2.result.now) (map plain_field c.in_ok-fields.fields) c.in_ok-from_slice.field-0
    (made_of c.args.making.now) (made_of c.declares.new.making) (made_of c.fields.new.making)
    (c.con_number.ensures ∙ ap (first_con g) c.spelled-name.ensures)
    c.in_ok-declares.ensures
    (c.in_ok-scope.ensures ∙ ap (λ l. numbered 0 (map (λ (f : FieldTree). f.name) (map (field_tree bytes) l))) c.as_slice.ensures)
    (ap (map (field_tree bytes)) c.as_slice-2.ensures)
    c.in_ok-fields.ensures
    (c.in_ok-from_slice.ensures ∙ c.spelled-name.ensures)
