use Rattle.mz_resource.proofs.laws.sound.Goals as goal
use Rattle.mz_resource.proofs.Soundness.{sound}

pub returns : goal.returns
returns c = sound
