use Rattle.mz_named.proofs.OneStep.{one_step}
use Rattle.mz_named.proofs.laws.leads_to_one.Goals as goal

pub returns : goal.returns
returns c = one_step
