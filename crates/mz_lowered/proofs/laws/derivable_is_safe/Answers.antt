use Rattle.mz_lowered.proofs.laws.derivable_is_safe.Goals as goal
use Rattle.mz_lowered.proofs.SafeCode.{derivable_is_safe}

pub returns : goal.returns
returns c = derivable_is_safe
