use Rattle.mz_resource.proofs.laws.keeps_command.Goals as goal
use Rattle.mz_resource.proofs.Soundness.{keeps_command}

pub returns : goal.returns
returns c = keeps_command
