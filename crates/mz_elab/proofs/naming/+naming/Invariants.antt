use Rattle.mz_elab.proofs.MadeNames.{Adding, of_codes}
use Rattle.mz_elab.proofs.naming.+naming.Given as goal

abbrev pub invariant-add_atoms-loop-i : goal.invariant-add_atoms-loop-i
invariant-add_atoms-loop-i l = Adding of_codes l.atoms l.initial.names l.i l.names
