use Rattle.mz_cli.proofs.OneVerifyRefusals.{verified_or_refusal}
use Rattle.mz_cli.proofs.laws.nothing_verified_is_refused.Goals as goal

pub returns : goal.returns
returns c = verified_or_refusal
