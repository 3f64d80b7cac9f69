use Rattle.std.proofs.Common.{◌≡◌, ◌++◌, drop}
use Rattle.mz_tree.specs.Plain.{atoms_of}
use Rattle.mz_tree.specs.View.{plain_atoms, plain_program}
use Rattle.mz_script.specs.Words.{atoms_text}
use Rattle.mz_script.proofs.Printing.{atoms_from}
use Rattle.mz_script.proofs.print.words.+types.Given as goal

abbrev pub invariant-atoms-loop-i : goal.invariant-atoms-loop-i
invariant-atoms-loop-i l = l.out.items ++ atoms_from (plain_program l.program) l.before (drop l.i l.atoms) ≡ l.fn.out.items ++ atoms_text (plain_program l.program) (atoms_of (plain_atoms l.atoms))
