use Rattle.mz_deriv.proofs.Ordered.{orders}
use Rattle.mz_deriv.proofs.OnePoint.{not_refused}
use Rattle.mz_deriv.proofs.laws.no_derivation_is_refused.Goals as goal

pub returns : goal.returns
returns c = not_refused orders
