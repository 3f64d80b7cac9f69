use Rattle.mz_elab.proofs.Whole.{program_not}
use Rattle.mz_elab.proofs.laws.nothing_guided_lacks.Goals as goal

pub returns : goal.returns
returns c = λ p place a g l. program_not p place a l g
