use Rattle.mz_decl.specs.View.{plain_decls}
use Rattle.mz_deriv.proofs.WholePrograms.{DerivedBelow}
use Rattle.mz_deriv.proofs.check.check_derivation.Given as goal

abbrev pub invariant-loop-k : goal.invariant-loop-k
invariant-loop-k l = DerivedBelow (plain_decls l.decls) l.funs l.scripts l.k
