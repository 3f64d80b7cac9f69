use Rattle.mz_goal.proofs.Viewing.{viewed}
use Rattle.mz_goal.proofs.laws.views_lead.Goals as goal

pub returns : goal.returns
returns c = viewed
