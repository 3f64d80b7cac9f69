use Rattle.std.proofs.Common.{◌≡◌, ◌++◌, map, take}
use Rattle.mz_tree.specs.View.{plain_field}
use Rattle.mz_decl.specs.Contents.{contents}
use Rattle.mz_modes.proofs.opening.add_contents.Given as goal

abbrev pub invariant-loop-i : goal.invariant-loop-i
invariant-loop-i l = l.state ≡ l.initial.state ++ contents l.names (map plain_field (take l.i l.fields))
