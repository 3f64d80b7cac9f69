use Rattle.mz_named.proofs.OneAnswer.{one_answer}
use Rattle.mz_named.proofs.laws.at_most_one_answer.Goals as goal

pub returns : goal.returns
returns c = one_answer
