use Rattle.mz_token.proofs.Unique.{one_fault}
use Rattle.mz_token.proofs.laws.at_most_one_fault.Goals as goal

pub returns : goal.returns
returns c = one_fault
