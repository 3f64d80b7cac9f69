use Rattle.std.proofs.Common.{◌≡◌, ◌∷◌, map, take}
use Rattle.mz_tree.specs.View.{plain_atom, plain_atoms, plain_field}
use Rattle.mz_decl.specs.Contents.{contents}
use Rattle.mz_elab.proofs.blocks.with_contents.Given as goal

abbrev pub invariant-loop-i : goal.invariant-loop-i
invariant-loop-i l = plain_atoms l.all ≡ plain_atom l.fn.block ∷ contents l.names (map plain_field (take l.i l.fields))
