use Rattle.std.proofs.Common.{◌∙◌}
use Rattle.mz_scope.proofs.Filled.{type_added}
use Rattle.mz_scope.proofs.tables.add_type.Goals as goal

pub returns : goal.returns
returns c = type_added c.args.table.now c.args.name.now c.in_ok-from_slice.field-0 c.args.stands_for c.in_ok-in_32_bits.field-0 _
    c.requires.kept (c.in_ok-in_32_bits.ensures ∙ c.len.ensures) c.in_ok-from_slice.ensures c.in_ok-push.ensures.ok c.in_ok-add.ensures
