use Rattle.mz_view.proofs.Orderless.{one_state}
use Rattle.mz_view.proofs.laws.leads_to_one.Goals as goal

pub returns : goal.returns
returns c = one_state
