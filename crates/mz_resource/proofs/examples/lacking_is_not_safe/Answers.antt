use Rattle.mz_resource.proofs.examples.lacking_is_not_safe.Goals as goal
use Rattle.mz_resource.proofs.Shown.Lacking.{derivable, not_safe}

pub returns : goal.returns
returns c = record { has_a_derivation = derivable; goes_wrong = not_safe }
