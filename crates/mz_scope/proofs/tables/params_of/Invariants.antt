use Rattle.std.proofs.Common.{◌≡◌, ◌++◌, drop, map}
use Rattle.mz_scope.specs.Syntax.{ParamTree}
use Rattle.mz_scope.specs.Trees.{param_tree}
use Rattle.mz_scope.specs.Tables.{param_word}
use Rattle.mz_scope.proofs.tables.params_of.Given as goal

-- those so far, and then those of the rest, are all
abbrev pub invariant-loop-i : goal.invariant-loop-i
invariant-loop-i l = map param_word l.all ++ map (λ (p : ParamTree). p.name) (map (param_tree l.text) (drop l.i l.params)) ≡ map (λ (p : ParamTree). p.name) (map (param_tree l.text) l.params)
