use Rattle.mz_decl.specs.View.{plain_decls}
use Rattle.mz_modes.specs.Marks.{IsRound, AreMutableCons, unmarked}
use Rattle.mz_modes.proofs.form.modes.Given as goal

abbrev pub invariant-loop : goal.invariant-loop
invariant-loop l = IsRound (plain_decls l.decls) l.affine × AreMutableCons (plain_decls l.decls) l.mutable_cons

abbrev pub decreases-loop : goal.decreases-loop
decreases-loop l = unmarked l.affine
