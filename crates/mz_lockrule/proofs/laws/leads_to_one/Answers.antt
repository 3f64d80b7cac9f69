use Rattle.mz_lockrule.proofs.Orders.{one_state}
use Rattle.mz_lockrule.proofs.laws.leads_to_one.Goals as goal

pub returns : goal.returns
returns c = one_state
