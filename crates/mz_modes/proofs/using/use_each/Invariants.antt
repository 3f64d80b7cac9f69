use Rattle.mz_tree.specs.View.{plain_atoms}
use Rattle.mz_decl.specs.Declarations.{Decls}
use Rattle.mz_perm.proofs.Remaining.{Remains}
use Rattle.mz_modes.specs.Affine.{AffineAtom}
use Rattle.mz_modes.specs.Modes.{AreModes}
use Rattle.mz_modes.proofs.using.use_each.Given as goal

abbrev pub invariant-loop-i : goal.invariant-loop-i
invariant-loop-i l = (D : Decls) → AreModes D l.modes → Remains (AffineAtom D) (plain_atoms l.atoms) l.i l.initial.state l.state
