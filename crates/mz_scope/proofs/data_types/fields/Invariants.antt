use Rattle.std.proofs.Common.{◌≡◌, drop, map}
use Rattle.mz_tree.specs.View.{plain_field}
use Rattle.mz_scope.specs.Declarations.{fields_from}
use Rattle.mz_scope.specs.Trees.{field_tree}
use Rattle.mz_scope.specs.View.{made_of}
use Rattle.mz_scope.proofs.Lists.{with_front}
use Rattle.mz_scope.proofs.data_types.fields.Given as goal

abbrev pub invariant-loop-i : goal.invariant-loop-i
invariant-loop-i l = fields_from l.source.globals.now l.scope 0 (map (field_tree l.source.text.now) l.all) (made_of l.fn.making)
    ≡ with_front (map plain_field l.fields) (fields_from l.source.globals.now l.scope l.i (map (field_tree l.source.text.now) (drop l.i l.all)) (made_of l.making))
