use Rattle.mz_words.proofs.Turning.{turns}
use Rattle.mz_words.proofs.laws.turns_are_events.Goals as goal

pub returns : goal.returns
returns c = turns
