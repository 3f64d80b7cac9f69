use Rattle.std.proofs.Common.{sym, ap, ◌∙◌}
use Rattle.std.specs.List.{range_with_len}
use Rattle.std.proofs.lemmas.List.{length-map}
use Rattle.mz_scope.specs.Trees.{con_tree, data_tree}
use Rattle.mz_scope.specs.View.{made_of}
use Rattle.mz_scope.proofs.DataSteps.{first_type, data_type_came}
use Rattle.mz_scope.proofs.data_types.data_type.Goals as goal

pub returns : goal.returns
returns c =
    let g = c.args.source.now.globals.now in
    let bytes = c.args.source.now.text.now in
    let x = c.args.one.now in
    data_type_came g c.args.before c.args.first (data_tree bytes x) c.type_position.result c.in_ok-adopts.adopts c.in_ok-from_slice.field-0 c.is_some.result c.in_ok-numbers.field-0
    (made_of c.args.making.now) (made_of c.declares.new.making) (made_of c.adopted_by.new.making)
    (c.type_position.ensures ∙ ap (first_type g) c.spelled-name.ensures)
    c.in_ok-declares.ensures
    c.in_ok-adopts.ensures
    (c.in_ok-from_slice.ensures ∙ c.spelled-name.ensures)
    c.is_some.ensures
    (c.in_ok-numbers.ensures ∙ ap (range_with_len c.args.first) (c.len.ensures ∙ sym (length-map x.cons (con_tree bytes))))
