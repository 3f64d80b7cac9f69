use Rattle.mz_types.proofs.FrontTexts.{front_right, front_only}
use Rattle.mz_types.proofs.Longest.{is_atom_longest}
use Rattle.mz_types.proofs.TypeFronts.{is_atom_reads, type_ends}
use Rattle.mz_types.proofs.fronts.read_atom.Goals as goal

pub returns-clause-right : goal.returns-clause-right
returns-clause-right c = front_right (is_atom_reads c.args.result_stands) type_ends (is_atom_longest c.args.result_stands) c.args.depth _ c.args.tokens.now _ c.atom.ensures

pub returns-clause-only : goal.returns-clause-only
returns-clause-only c = front_only (is_atom_reads c.args.result_stands) type_ends (is_atom_longest c.args.result_stands) c.args.depth _ c.args.tokens.now _ c.atom.ensures
