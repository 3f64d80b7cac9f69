use Rattle.mz_scope.proofs.OneTexts.{one_program}
use Rattle.mz_scope.proofs.laws.at_most_one_program.Goals as goal

pub returns : goal.returns
returns c = one_program
