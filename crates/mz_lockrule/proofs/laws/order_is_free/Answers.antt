use Rattle.mz_lockrule.proofs.Orders.{order_free}
use Rattle.mz_lockrule.proofs.laws.order_is_free.Goals as goal

pub returns : goal.returns
returns c = order_free
