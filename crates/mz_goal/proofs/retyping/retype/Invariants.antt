use Rattle.std.proofs.Common.{◌++◌, ◌∷◌, []}
use Rattle.mz_tree.specs.Plain.{Has_atom}
use Rattle.mz_tree.specs.View.{plain_ty}
use Rattle.mz_decl.specs.Declarations.{Decls}
use Rattle.mz_modes.specs.Modes.{AreModes}
use Rattle.mz_view.specs.Steps.{plain_steps}
use Rattle.mz_goal.specs.Added.{Added}
use Rattle.mz_goal.proofs.Putting.{Retyped}
use Rattle.mz_goal.proofs.retyping.retype.Given as goal

abbrev pub invariant-loop-i : goal.invariant-loop-i
invariant-loop-i l = record {
  typed : Retyped l.state (plain_ty l.from) l.after l.i (plain_ty l.ty);
  steps : (D : Decls) → AreModes D l.modes → Added D (l.state ++ Has_atom l.name (plain_ty l.from) ∷ []) (plain_steps l.initial.steps) (plain_steps l.steps) (l.state ++ Has_atom l.name (plain_ty l.ty) ∷ []);
}
