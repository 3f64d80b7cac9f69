use Rattle.mz_perm.proofs.Orders.{perm_refl}
use Rattle.mz_deriv.proofs.Ordered.{orders}
use Rattle.mz_deriv.proofs.Steadiness.{walks_alike}
use Rattle.mz_deriv.proofs.laws.leads_to_one.Goals as goal

pub returns : goal.returns
returns c = λ D names R T U commands items w v. walks_alike orders D R U (perm_refl R) w v
