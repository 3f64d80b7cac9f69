use Rattle.std.proofs.Common.{◌≡◌, drop}
use Rattle.mz_tree.specs.View.{plain_atoms}
use Rattle.mz_scope.specs.Types.{flat_atoms}
use Rattle.mz_scope.specs.Trees.{atom_trees}
use Rattle.mz_scope.specs.View.{made_of}
use Rattle.mz_scope.proofs.Lists.{with_front}
use Rattle.mz_scope.proofs.types.+types.Given as goal

abbrev pub invariant-atoms-loop-i : goal.invariant-atoms-loop-i
invariant-atoms-loop-i l = flat_atoms l.source.globals.now l.scope (atom_trees l.source.text.now l.all) (made_of l.fn.making)
    ≡ with_front (plain_atoms l.atoms) (flat_atoms l.source.globals.now l.scope (atom_trees l.source.text.now (drop l.i l.all)) (made_of l.making))
