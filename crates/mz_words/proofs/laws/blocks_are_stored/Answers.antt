use Rattle.mz_words.proofs.Storing.{blocks_stored}
use Rattle.mz_words.proofs.laws.blocks_are_stored.Goals as goal

pub returns : goal.returns
returns c = blocks_stored
