use Rattle.mz_decl.specs.View.{plain_decls}
use Rattle.mz_elab.proofs.WholeFunctions.{FunsBelow}
use Rattle.mz_elab.proofs.elaborating.elaborate.Given as goal

abbrev pub invariant-loop-k : goal.invariant-loop-k
invariant-loop-k l = FunsBelow (plain_decls l.decls) l.funs l.k
