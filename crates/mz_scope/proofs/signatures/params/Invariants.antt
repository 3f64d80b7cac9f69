use Rattle.std.proofs.Common.{◌≡◌, drop, map}
use Rattle.mz_tree.specs.View.{plain_need}
use Rattle.mz_scope.specs.Declarations.{params_from}
use Rattle.mz_scope.specs.Trees.{param_tree}
use Rattle.mz_scope.specs.View.{made_of}
use Rattle.mz_scope.proofs.Lists.{with_front}
use Rattle.mz_scope.proofs.signatures.params.Given as goal

abbrev pub invariant-loop-i : goal.invariant-loop-i
invariant-loop-i l = params_from l.source.globals.now l.scope 0 (map (param_tree l.source.text.now) l.all) (made_of l.fn.making)
    ≡ with_front (map plain_need l.needs) (params_from l.source.globals.now l.scope l.i (map (param_tree l.source.text.now) (drop l.i l.all)) (made_of l.making))
