use Rattle.mz_words.proofs.Replaying.{replays}
use Rattle.mz_words.proofs.laws.parts_follow.Goals as goal

pub returns : goal.returns
returns c = replays
