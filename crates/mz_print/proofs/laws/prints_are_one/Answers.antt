use Rattle.mz_print.proofs.Placing.{one_list}
use Rattle.mz_print.proofs.laws.prints_are_one.Goals as goal

pub returns : goal.returns
returns c = one_list
