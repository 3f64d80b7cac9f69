use Rattle.mz_tree.specs.View.{plain_atom}
use Rattle.mz_decl.specs.View.{plain_decls}
use Rattle.mz_elab.specs.Standing.{IsKnown}
use Rattle.mz_elab.proofs.EachGiven.{Given}
use Rattle.mz_elab.proofs.giving.give.Given as goal

abbrev pub invariant-loop-k : goal.invariant-loop-k
invariant-loop-k l = Given (plain_decls l.decls) (IsKnown l.bound l.next) l.to (plain_atom l.goal) l.initial.ends l.k l.ends
