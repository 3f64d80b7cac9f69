use Rattle.std.proofs.Common.{◌≡◌, map, take}
use Rattle.mz_tree.specs.View.{plain_atoms, plain_field}
use Rattle.mz_decl.specs.Contents.{contents}
use Rattle.mz_goal.proofs.folding.contents_of.Given as goal

abbrev pub invariant-loop-i : goal.invariant-loop-i
invariant-loop-i l = plain_atoms l.all ≡ contents l.names (map plain_field (take l.i l.fields))
