use Rattle.mz_resource.proofs.laws.held_is_fine.Goals as goal
use Rattle.mz_resource.proofs.Soundness.{held_is_fine}

pub returns : goal.returns
returns c = held_is_fine
