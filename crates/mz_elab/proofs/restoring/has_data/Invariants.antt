use Rattle.mz_decl.specs.View.{plain_decls}
use Rattle.mz_elab.proofs.PutBack.{NotYet}
use Rattle.mz_elab.proofs.restoring.has_data.Given as goal

abbrev pub invariant-loop-i : goal.invariant-loop-i
invariant-loop-i l = NotYet (plain_decls l.decls) l.name l.number l.join l.i
