use Rattle.mz_resource.proofs.laws.opening_is_held.Goals as goal
use Rattle.mz_resource.proofs.Soundness.{opening_is_held}

pub returns : goal.returns
returns c = opening_is_held
