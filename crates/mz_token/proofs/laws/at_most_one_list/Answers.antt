use Rattle.mz_token.proofs.Unique.{one_list}
use Rattle.mz_token.proofs.laws.at_most_one_list.Goals as goal

pub returns : goal.returns
returns c = one_list
