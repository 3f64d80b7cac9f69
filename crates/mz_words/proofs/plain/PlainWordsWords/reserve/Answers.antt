use Rattle.std.proofs.Common.{refl}
use Rattle.std.proofs.lemmas.List.{set-set}
use Rattle.mz_words.proofs.Others.{same_others}
use Rattle.mz_words.proofs.plain.PlainWordsWords.reserve.Goals as goal

pub returns-clause-rest : goal.returns-clause-rest
returns-clause-rest c = same_others _ _ _ _ (set-set c.args.self.now.tapes.items c.args.self.now.turn _ _) refl
