use Rattle.mz_types.proofs.Rooms.{read_whole}
use Rattle.mz_types.proofs.TypeFronts.{type_reads, is_atom_reads, are_atoms_read, type_ends, atoms_end}
use Rattle.mz_types.proofs.laws.trees_are_read.Goals as goal

pub returns-clause-types : goal.returns-clause-types
returns-clause-types c = λ result. read_whole (type_reads result) type_ends

pub returns-clause-atoms : goal.returns-clause-atoms
returns-clause-atoms c = λ result. read_whole (is_atom_reads result) type_ends

pub returns-clause-lists : goal.returns-clause-lists
returns-clause-lists c = λ result. read_whole (are_atoms_read result) atoms_end
