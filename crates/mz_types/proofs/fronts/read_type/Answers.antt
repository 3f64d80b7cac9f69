use Rattle.mz_types.specs.Reading.{below}
use Rattle.mz_types.proofs.FrontTexts.{front_right, front_only}
use Rattle.mz_types.proofs.Longest.{type_longest}
use Rattle.mz_types.proofs.TypeFronts.{type_reads, type_ends}
use Rattle.mz_types.proofs.fronts.read_type.Goals as goal

pub returns-clause-gives : goal.returns-clause-gives
unfolding below
returns-clause-gives c = c.any_type.ensures

pub returns-clause-right : goal.returns-clause-right
unfolding below
returns-clause-right c = front_right (type_reads c.args.result_stands) type_ends (type_longest c.args.result_stands) c.args.depth _ c.args.tokens.now _ c.any_type.ensures

pub returns-clause-only : goal.returns-clause-only
unfolding below
returns-clause-only c = front_only (type_reads c.args.result_stands) type_ends (type_longest c.args.result_stands) c.args.depth _ c.args.tokens.now _ c.any_type.ensures
