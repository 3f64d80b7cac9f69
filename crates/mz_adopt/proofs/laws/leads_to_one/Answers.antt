use Rattle.mz_adopt.proofs.Orders.{one_state}
use Rattle.mz_adopt.proofs.laws.leads_to_one.Goals as goal

pub returns : goal.returns
returns c = one_state
