use Rattle.std.proofs.Common.{map}
use Rattle.mz_tree.specs.View.{plain_field}
use Rattle.mz_decl.specs.View.{plain_decls}
use Rattle.mz_modes.specs.Affine.{AffineAtom}
use Rattle.mz_perm.proofs.Remaining.{Remains}
use Rattle.mz_decl.specs.Contents.{contents}
use Rattle.mz_view.proofs.using.use_contents.Given as goal

abbrev pub invariant-loop-i : goal.invariant-loop-i
invariant-loop-i l = Remains (AffineAtom (plain_decls l.decls)) (contents l.names (map plain_field l.fields)) l.i l.initial.state l.state
