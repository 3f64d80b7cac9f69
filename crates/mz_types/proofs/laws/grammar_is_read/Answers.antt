use Rattle.mz_types.proofs.TypeFronts.{type_reads, is_atom_reads, are_atoms_read}
use Rattle.mz_types.proofs.laws.grammar_is_read.Goals as goal

pub returns-clause-types : goal.returns-clause-types
returns-clause-types c = type_reads

pub returns-clause-atoms : goal.returns-clause-atoms
returns-clause-atoms c = is_atom_reads

pub returns-clause-lists : goal.returns-clause-lists
returns-clause-lists c = are_atoms_read
