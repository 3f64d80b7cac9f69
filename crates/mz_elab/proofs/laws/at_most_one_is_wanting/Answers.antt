use Rattle.mz_elab.proofs.Whole.{program_once}
use Rattle.mz_elab.proofs.laws.at_most_one_is_wanting.Goals as goal

pub returns : goal.returns
returns c = program_once
