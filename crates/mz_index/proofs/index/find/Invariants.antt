use Rattle.mz_perm.specs.Lists.{NotBefore}
use Rattle.mz_index.proofs.index.find.Given as goal

abbrev pub invariant-loop-i : goal.invariant-loop-i
invariant-loop-i l = NotBefore l.i l.atom l.atoms
