use Rattle.mz_tree.specs.View.{plain_atoms}
use Rattle.mz_decl.specs.View.{plain_decls}
use Rattle.mz_elab.specs.Standing.{IsKnown}
use Rattle.mz_elab.proofs.PutBack.{PutBack}
use Rattle.mz_elab.proofs.restoring.restore.Given as goal

abbrev pub invariant-loop-i : goal.invariant-loop-i
invariant-loop-i l = PutBack (plain_decls l.decls) (IsKnown l.bound l.next) l.to l.before (plain_atoms l.initial.join) l.initial.ends l.i l.ends (plain_atoms l.join)
