-- States are kept as lists of the program's permissions.
use Rattle.std.specs.Prelude.{ℕ, List}
use Rattle.std.specs.Coded.{Coded, code_by, coded_list}
use Rattle.mz_tree.specs.Plain.{Atom}
use Rattle.mz_tree.specs.View.{plain_atom}
use Rattle.mz_tree.specs.contracts.types.Atom.TheKnot.{coded-Atom}
use Rattle.mz_tree.specs.declared.types.Atom.{Atom as CodeAtom}
use Rattle.mz_tree.proofs.Views.{code_atom, plain_code_atom}

abbrev pub state_code : Coded (List (Atom ℕ))
state_code = coded_list (code_by CodeAtom coded-Atom code_atom plain_atom plain_code_atom)
