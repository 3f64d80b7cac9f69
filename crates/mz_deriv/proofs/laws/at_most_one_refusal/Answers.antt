use Rattle.mz_deriv.proofs.Ordered.{orders}
use Rattle.mz_deriv.proofs.OnePoint.{one_point}
use Rattle.mz_deriv.proofs.laws.at_most_one_refusal.Goals as goal

pub returns : goal.returns
returns c = one_point orders
