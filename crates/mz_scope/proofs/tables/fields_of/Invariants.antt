use Rattle.std.proofs.Common.{◌≡◌, ◌++◌, drop, map}
use Rattle.mz_scope.specs.Syntax.{FieldTree}
use Rattle.mz_scope.specs.Trees.{field_tree}
use Rattle.mz_scope.specs.Names.{numbered}
use Rattle.mz_scope.proofs.tables.fields_of.Given as goal

-- those so far, and then those of the rest, are all
abbrev pub invariant-loop-i : goal.invariant-loop-i
invariant-loop-i l = l.scope ++ numbered l.i (map (λ (f : FieldTree). f.name) (map (field_tree l.text) (drop l.i l.fields))) ≡ numbered 0 (map (λ (f : FieldTree). f.name) (map (field_tree l.text) l.fields))
