use Rattle.mz_tree.specs.View.{plain_atom}
use Rattle.mz_elab.proofs.Shared.{Outs}
use Rattle.mz_elab.proofs.sharing.take_out_all.Given as goal

abbrev pub invariant-loop-k : goal.invariant-loop-k
invariant-loop-k l = Outs (plain_atom l.atom) l.initial.ends l.k l.ends
