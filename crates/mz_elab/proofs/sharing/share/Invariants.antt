use Rattle.std.proofs.Common.{ℕ, List}
use Rattle.mz_tree.specs.Plain.{Atom}
use Rattle.mz_tree.specs.View.{plain_atoms}
use Rattle.mz_decl.specs.Declarations.{Decls}
use Rattle.mz_modes.specs.Modes.{AreModes}
use Rattle.mz_elab.specs.Joining.{AreOuter}
use Rattle.mz_elab.proofs.Shared.{Sharing}
use Rattle.mz_elab.proofs.sharing.share.Given as goal

abbrev pub invariant-loop-i : goal.invariant-loop-i
invariant-loop-i l = (D : Decls) (names : List ℕ) (R : List (Atom ℕ)) → AreModes D l.modes → AreOuter l.outer names R → Sharing D names R l.these (plain_atoms l.initial.join) l.initial.ends l.i l.ends (plain_atoms l.join)
