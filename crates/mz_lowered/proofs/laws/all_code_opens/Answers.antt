use Rattle.mz_lowered.proofs.laws.all_code_opens.Goals as goal
use Rattle.mz_lowered.proofs.Shown.{all_code_opens}

pub returns : goal.returns
returns c = all_code_opens
