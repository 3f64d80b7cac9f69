use Rattle.mz_cli.proofs.OneRefusals.{one_refusal}
use Rattle.mz_cli.proofs.laws.at_most_one_refusal.Goals as goal

pub returns : goal.returns
returns c = one_refusal
