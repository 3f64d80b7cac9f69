-- The laws of order of all rules, as their crates prove them.
use Rattle.mz_view.proofs.Orderless.{order_free as view_free, one_state as view_one}
use Rattle.mz_flow.proofs.Orders.{order_free as plain_free, one_state as plain_one}
use Rattle.mz_flow.proofs.BranchOrders.{branch_order_free, branch_one_state}
use Rattle.mz_adopt.proofs.Orders.{order_free as adoption_free, one_state as adoption_one}
use Rattle.mz_lockrule.proofs.Orders.{order_free as lock_free, one_state as lock_one}
use Rattle.mz_deriv.proofs.RuleOrders.{Orders}

pub orders : Orders
orders = record {
  view = view_free;
  view_one = view_one;
  plain = plain_free;
  plain_one = plain_one;
  branch = branch_order_free;
  branch_one = branch_one_state;
  adoption = adoption_free;
  adoption_one = adoption_one;
  lock = lock_free;
  lock_one = lock_one;
}
