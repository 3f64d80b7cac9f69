use Rattle.std.proofs.Common.{◌≡◌, drop, map}
use Rattle.mz_tree.specs.View.{plain_need}
use Rattle.mz_scope.specs.Declarations.{needs_of}
use Rattle.mz_scope.specs.Trees.{need_tree}
use Rattle.mz_scope.specs.View.{made_of}
use Rattle.mz_scope.proofs.Lists.{with_front}
use Rattle.mz_scope.proofs.signatures.needs.Given as goal

abbrev pub invariant-loop-i : goal.invariant-loop-i
invariant-loop-i l = needs_of l.source.globals.now l.scope (map (need_tree l.source.text.now) l.all) (made_of l.fn.making)
    ≡ with_front (map plain_need l.needs) (needs_of l.source.globals.now l.scope (map (need_tree l.source.text.now) (drop l.i l.all)) (made_of l.making))
