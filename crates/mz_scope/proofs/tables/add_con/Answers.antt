use Rattle.std.proofs.Common.{subst, ap, ◌∙◌, map}
use Rattle.mz_scope.specs.Syntax.{FieldTree}
use Rattle.mz_scope.specs.Trees.{con_tree, field_tree}
use Rattle.mz_scope.specs.Names.{numbered}
use Rattle.mz_scope.specs.NameMaps.{Adds}
use Rattle.mz_scope.proofs.Filled.{con_added}
use Rattle.mz_scope.proofs.tables.add_con.Goals as goal

pub returns : goal.returns
returns c = con_added c.args.variety c.args.table.now (con_tree c.args.text.now c.args.con.now) c.in_ok-from_slice.field-0 c.in_ok-number.number c.in_ok-fields.fields _
    c.requires.kept (c.in_ok-number.ensures ∙ c.len.ensures) (c.in_ok-from_slice.ensures ∙ c.spelled-name.ensures)
    (c.in_ok-fields.ensures ∙ ap (λ fields. numbered 0 (map (λ (f : FieldTree). f.name) (map (field_tree c.args.text.now) fields))) c.as_slice.ensures)
    c.in_ok-push.ensures.ok
    (subst (λ name. Adds c.args.table.now.first.first name c.in_ok-number.number c.add.new.self.first) c.spelled-name.ensures c.in_ok-add.ensures)
    c.in_ok-mark_all.ensures
