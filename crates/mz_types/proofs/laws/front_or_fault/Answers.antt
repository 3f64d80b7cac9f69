use Rattle.mz_types.proofs.FrontTexts.{found_or_fault}
use Rattle.mz_types.proofs.Longest.{type_longest, is_atom_longest, are_atoms_longest}
use Rattle.mz_types.proofs.TypeFronts.{type_reads, is_atom_reads, are_atoms_read, type_ends, atoms_end}
use Rattle.mz_types.proofs.laws.front_or_fault.Goals as goal

pub returns-clause-types : goal.returns-clause-types
returns-clause-types c = λ result. found_or_fault (type_reads result) type_ends (type_longest result)

pub returns-clause-atoms : goal.returns-clause-atoms
returns-clause-atoms c = λ result. found_or_fault (is_atom_reads result) type_ends (is_atom_longest result)

pub returns-clause-lists : goal.returns-clause-lists
returns-clause-lists c = λ result. found_or_fault (are_atoms_read result) atoms_end (are_atoms_longest result)
