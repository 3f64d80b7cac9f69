use Rattle.mz_cli.proofs.OneVerifyRefusals.{one_verify_refusal}
use Rattle.mz_cli.proofs.laws.at_most_one_verify_refusal.Goals as goal

pub returns : goal.returns
returns c = one_verify_refusal
