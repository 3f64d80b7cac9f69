use Rattle.std.proofs.Common.{map, take}
use Rattle.mz_tree.specs.View.{plain_atoms, plain_need}
use Rattle.mz_decl.specs.Declarations.{Decls}
use Rattle.mz_modes.specs.Calling.{GivesBack}
use Rattle.mz_modes.specs.Modes.{AreModes}
use Rattle.mz_modes.proofs.calling.gives_back.Given as goal

abbrev pub invariant-loop-i : goal.invariant-loop-i
invariant-loop-i l = (D : Decls) → AreModes D l.modes → GivesBack D (map plain_need (take l.i l.all)) (plain_atoms l.back)
