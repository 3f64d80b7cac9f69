use Rattle.mz_elab.proofs.MadeNames.{Adding, of_names}
use Rattle.mz_elab.proofs.naming.add_each.Given as goal

abbrev pub invariant-loop-i : goal.invariant-loop-i
invariant-loop-i l = Adding of_names l.fields l.initial.names l.i l.names
