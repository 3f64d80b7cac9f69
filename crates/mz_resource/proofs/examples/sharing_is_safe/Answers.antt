use Rattle.mz_resource.proofs.examples.sharing_is_safe.Goals as goal
use Rattle.mz_resource.proofs.Shown.Sharing.{scoped, derivable, sharing_is_safe}

pub returns : goal.returns
returns c = record { is_read = scoped; has_a_derivation = derivable; is_safe = sharing_is_safe }
