use Rattle.mz_tree.specs.View.{plain_atom}
use Rattle.mz_decl.specs.View.{plain_decls}
use Rattle.mz_elab.proofs.AllTried.{Trying}
use Rattle.mz_elab.proofs.trying.would_all.Given as goal

abbrev pub invariant-loop-k : goal.invariant-loop-k
invariant-loop-k l = Trying (plain_decls l.decls) l.to (plain_atom l.goal) l.ends l.k
