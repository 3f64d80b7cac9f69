use Rattle.mz_parse.proofs.WholeSources.{one_fault}
use Rattle.mz_parse.proofs.laws.at_most_one_fault.Goals as goal

pub returns : goal.returns
returns c = one_fault
