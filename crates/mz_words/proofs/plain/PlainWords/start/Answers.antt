use Rattle.mz_words.proofs.Opened.{are_first}
use Rattle.mz_words.proofs.plain.PlainWords.start.Goals as goal

pub returns-clause-words : goal.returns-clause-words
returns-clause-words c = are_first c.args.size c.args.main _ c.in_ok-words.ensures.words
