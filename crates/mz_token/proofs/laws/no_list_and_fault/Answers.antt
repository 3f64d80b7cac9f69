use Rattle.mz_token.proofs.Unique.{list_or_fault}
use Rattle.mz_token.proofs.laws.no_list_and_fault.Goals as goal

pub returns : goal.returns
returns c = list_or_fault
