use Rattle.mz_flow.proofs.BranchOrders.{branch_one_state}
use Rattle.mz_flow.proofs.laws.branch_leads_to_one.Goals as goal

pub returns : goal.returns
returns c = branch_one_state
