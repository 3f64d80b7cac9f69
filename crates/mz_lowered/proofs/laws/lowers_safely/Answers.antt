use Rattle.mz_lowered.proofs.laws.lowers_safely.Goals as goal
use Rattle.mz_lowered.proofs.SafeCode.{lowers_safely}

pub returns : goal.returns
returns c = lowers_safely
