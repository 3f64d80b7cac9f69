use Rattle.std.proofs.Common.{◌≡◌, ◌+◌, drop, map}
use Rattle.mz_tree.specs.View.{plain_con}
use Rattle.mz_scope.specs.Declarations.{cons_from}
use Rattle.mz_scope.specs.Trees.{con_tree}
use Rattle.mz_scope.specs.View.{made_of}
use Rattle.mz_scope.proofs.Lists.{with_front}
use Rattle.mz_scope.proofs.data_types.cons.Given as goal

abbrev pub invariant-loop-i : goal.invariant-loop-i
invariant-loop-i l = cons_from l.source.globals.now l.variety l.first (map (con_tree l.source.text.now) l.all) (made_of l.fn.making)
    ≡ with_front (map plain_con l.cons) (cons_from l.source.globals.now l.variety (l.first + l.i) (map (con_tree l.source.text.now) (drop l.i l.all)) (made_of l.making))
