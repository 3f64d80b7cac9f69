use Rattle.mz_deriv.proofs.Ordered.{orders}
use Rattle.mz_deriv.proofs.OnePoint.{fun_refused_once}
use Rattle.mz_deriv.proofs.laws.at_most_one_refusal_of_a_fun.Goals as goal

pub returns : goal.returns
returns c = fun_refused_once orders
