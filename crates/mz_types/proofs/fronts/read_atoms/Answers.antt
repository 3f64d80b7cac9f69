use Rattle.mz_types.proofs.FrontTexts.{front_right, front_only}
use Rattle.mz_types.proofs.Longest.{are_atoms_longest}
use Rattle.mz_types.proofs.TypeFronts.{are_atoms_read, atoms_end}
use Rattle.mz_types.proofs.fronts.read_atoms.Goals as goal

pub returns-clause-right : goal.returns-clause-right
returns-clause-right c = front_right (are_atoms_read c.args.result_stands) atoms_end (are_atoms_longest c.args.result_stands) c.args.depth _ c.args.tokens.now _ c.atoms.ensures

pub returns-clause-only : goal.returns-clause-only
returns-clause-only c = front_only (are_atoms_read c.args.result_stands) atoms_end (are_atoms_longest c.args.result_stands) c.args.depth _ c.args.tokens.now _ c.atoms.ensures
