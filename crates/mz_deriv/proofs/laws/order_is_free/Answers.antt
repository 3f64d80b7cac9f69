use Rattle.mz_deriv.proofs.Ordered.{orders}
use Rattle.mz_deriv.proofs.Steadiness.{walk_alike}
use Rattle.mz_deriv.proofs.laws.order_is_free.Goals as goal

pub returns : goal.returns
returns c = λ D names R S T commands items p w. walk_alike orders D S p w
