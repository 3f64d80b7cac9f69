use Rattle.mz_resource.proofs.examples.doubling_is_safe.Goals as goal
use Rattle.mz_resource.proofs.Shown.Doubling.{scoped, derivable, doubling_is_safe}

pub returns : goal.returns
returns c = record { is_read = scoped; has_a_derivation = derivable; is_safe = doubling_is_safe }
