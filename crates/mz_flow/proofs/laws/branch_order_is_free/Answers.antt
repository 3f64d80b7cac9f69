use Rattle.mz_flow.proofs.BranchOrders.{branch_order_free}
use Rattle.mz_flow.proofs.laws.branch_order_is_free.Goals as goal

pub returns : goal.returns
returns c = branch_order_free
