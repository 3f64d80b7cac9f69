use Rattle.mz_lowered.proofs.laws.doubling_runs_safely.Goals as goal
use Rattle.mz_lowered.proofs.Shown.{doubling_runs_safely}

pub returns : goal.returns
returns c = doubling_runs_safely
