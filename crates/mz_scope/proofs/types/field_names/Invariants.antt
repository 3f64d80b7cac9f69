use Rattle.std.proofs.Common.{◌≡◌, drop, map}
use Rattle.std.specs.Option.{option_copied}
use Rattle.mz_scope.specs.Types.{flat_field_names}
use Rattle.mz_scope.specs.Trees.{field_name_of}
use Rattle.mz_scope.specs.View.{made_of}
use Rattle.mz_scope.proofs.Lists.{with_front}
use Rattle.mz_scope.proofs.types.field_names.Given as goal

abbrev pub invariant-loop-i : goal.invariant-loop-i
invariant-loop-i l = flat_field_names l.source.globals.now l.scope (option_copied l.con) (map (field_name_of l.source.text.now) l.fields) (made_of l.fn.making)
    ≡ with_front l.written (flat_field_names l.source.globals.now l.scope (option_copied l.con) (map (field_name_of l.source.text.now) (drop l.i l.fields)) (made_of l.making))
