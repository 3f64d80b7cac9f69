use Rattle.std.proofs.Common.{◌≡◌}
use Rattle.mz_names.specs.Trees.{found}
use Rattle.mz_names.proofs.tree.Tree.find.Given as goal

abbrev pub invariant-loop-tree : goal.invariant-loop-tree
invariant-loop-tree l = found l.tree l.left l.text ≡ found l.self 512 l.text
