use Rattle.mz_resource.proofs.laws.keeps_view.Goals as goal
use Rattle.mz_resource.proofs.Soundness.{keeps_view}

pub returns : goal.returns
returns c = keeps_view
