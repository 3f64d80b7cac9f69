use Rattle.mz_cli.proofs.OneOutcomes.{one_outcome}
use Rattle.mz_cli.proofs.laws.at_most_one_outcome.Goals as goal

pub returns : goal.returns
returns c = one_outcome
