use Rattle.mz_goal.proofs.Unique.{need_same}
use Rattle.mz_goal.proofs.laws.leads_to_one.Goals as goal

pub returns : goal.returns
returns c = need_same
