use Rattle.std.proofs.Common.{◌≡◌, ◌++◌, drop, map}
use Rattle.mz_scope.specs.Syntax.{FieldTree}
use Rattle.mz_scope.specs.Names.{numbered}
use Rattle.mz_scope.specs.Trees.{field_tree}
use Rattle.mz_scope.proofs.data_types.field_scope.Given as goal

abbrev pub invariant-loop-i : goal.invariant-loop-i
invariant-loop-i l = numbered 0 (map (λ (f : FieldTree). f.name) (map (field_tree l.source.text.now) l.fields))
    ≡ l.scope ++ numbered l.i (map (λ (f : FieldTree). f.name) (map (field_tree l.source.text.now) (drop l.i l.fields)))
