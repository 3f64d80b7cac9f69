use Rattle.mz_words.proofs.Joining.{interleaves}
use Rattle.mz_words.proofs.laws.runs_interleave.Goals as goal

pub returns : goal.returns
returns c = interleaves
