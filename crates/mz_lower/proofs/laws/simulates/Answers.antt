use Rattle.mz_lower.proofs.laws.simulates.Goals as goal
use Rattle.mz_lower.proofs.Simulated.{all_stand}

pub returns : goal.returns
returns c = all_stand
