use Rattle.std.proofs.Common.{◌≡◌, ◌++◌, drop, map}
use Rattle.mz_scope.specs.Syntax.{ParamTree}
use Rattle.mz_scope.specs.Names.{numbered}
use Rattle.mz_scope.specs.Trees.{param_tree}
use Rattle.mz_scope.proofs.signatures.scope_of.Given as goal

abbrev pub invariant-loop-i : goal.invariant-loop-i
invariant-loop-i l = numbered 0 (map (λ (p : ParamTree). p.name) (map (param_tree l.source.text.now) l.params))
    ≡ l.scope ++ numbered l.i (map (λ (p : ParamTree). p.name) (map (param_tree l.source.text.now) (drop l.i l.params)))
