use Rattle.mz_words.proofs.Weaving.{woven}
use Rattle.mz_words.proofs.laws.records_are_runs.Goals as goal

pub returns : goal.returns
returns c = woven
