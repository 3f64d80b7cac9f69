use Rattle.std.proofs.Common.{length}
use Rattle.mz_decl.specs.Declarations.{Decls}
use Rattle.mz_modes.specs.Modes.{AreModes}
use Rattle.mz_elab.specs.Standing.{IsKnown}
use Rattle.mz_elab.proofs.Thin.{Keeping}
use Rattle.mz_elab.proofs.thinning.keep.Given as goal

abbrev pub invariant-loop-step : goal.invariant-loop-step
invariant-loop-step l = (D : Decls) → AreModes D l.modes → Keeping D (IsKnown l.bound l.next) l.initial.left l.left l.kept

abbrev pub decreases-loop-step : goal.decreases-loop-step
decreases-loop-step l = length l.left
