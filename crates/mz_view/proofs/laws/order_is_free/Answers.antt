use Rattle.mz_view.proofs.Orderless.{order_free}
use Rattle.mz_view.proofs.laws.order_is_free.Goals as goal

pub returns : goal.returns
returns c = order_free
