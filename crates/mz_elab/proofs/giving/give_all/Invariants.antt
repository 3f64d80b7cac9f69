use Rattle.mz_decl.specs.View.{plain_decls}
use Rattle.mz_elab.specs.Standing.{IsKnown}
use Rattle.mz_elab.proofs.AllGiving.{Giving}
use Rattle.mz_elab.proofs.giving.give_all.Given as goal

abbrev pub invariant-loop-i : goal.invariant-loop-i
invariant-loop-i l = Giving (plain_decls l.decls) (IsKnown l.bound l.next) l.to l.giving l.initial.ends l.i l.ends
