use Rattle.std.proofs.Common.{subst, ap, ◌∙◌}
use Rattle.mz_scope.specs.Trees.{fun_tree}
use Rattle.mz_scope.specs.Names.{param_count}
use Rattle.mz_scope.specs.NameMaps.{Adds}
use Rattle.mz_scope.specs.Tables.{types_in, params_in}
use Rattle.mz_scope.proofs.Filled.{fun_added}
use Rattle.mz_scope.proofs.tables.add_fun.Goals as goal

pub returns : goal.returns
returns c = fun_added (types_in c.args.types.now.list) (params_in c.args.params.now) c.args.table.now (fun_tree c.args.text.now c.args.function.now) c.in_ok-from_slice.field-0 c.in_ok-in_32_bits.field-0 c.in_ok-param_count.field-0 _
    c.requires.kept (c.in_ok-in_32_bits.ensures ∙ c.len.ensures) (c.in_ok-from_slice.ensures ∙ c.spelled-name.ensures)
    (c.in_ok-param_count.ensures ∙ ap (param_count (types_in c.args.types.now.list) (params_in c.args.params.now)) c.spelled.ensures)
    c.in_ok-push.ensures.ok
    (subst (λ name. Adds c.args.table.now.first.first name (record { number = c.in_ok-in_32_bits.field-0; params = c.in_ok-param_count.field-0 }) c.add.new.self.first) c.spelled-name.ensures c.in_ok-add.ensures)
