use Rattle.mz_elab.proofs.MadeNames.{Adding, of_atoms}
use Rattle.mz_elab.proofs.naming.outer_names.Given as goal

abbrev pub invariant-loop-i : goal.invariant-loop-i
invariant-loop-i l = Adding of_atoms l.before l.initial.outer l.i l.outer
