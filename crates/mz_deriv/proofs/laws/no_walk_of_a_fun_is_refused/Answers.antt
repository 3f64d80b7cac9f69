use Rattle.mz_deriv.proofs.Ordered.{orders}
use Rattle.mz_deriv.proofs.OnePoint.{fun_walks_not_refused}
use Rattle.mz_deriv.proofs.laws.no_walk_of_a_fun_is_refused.Goals as goal

pub returns : goal.returns
returns c = fun_walks_not_refused orders
