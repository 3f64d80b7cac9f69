use Rattle.mz_tree.specs.View.{plain_atom}
use Rattle.mz_elab.proofs.Shared.{AllIn}
use Rattle.mz_elab.proofs.sharing.in_all.Given as goal

abbrev pub invariant-loop-k : goal.invariant-loop-k
invariant-loop-k l = AllIn (plain_atom l.atom) l.ends l.k
