use Rattle.mz_words.proofs.Storing.{starts_stored}
use Rattle.mz_words.proofs.laws.starts_are_stored.Goals as goal

pub returns : goal.returns
returns c = starts_stored
