use Rattle.std.proofs.lemmas.List.{set-set}
use Rattle.mz_words.proofs.Others.{same_others}
use Rattle.mz_words.proofs.plain.PlainWords.log.Goals as goal

pub returns-clause-others : goal.returns-clause-others
returns-clause-others c = same_others _ _ _ _ (set-set c.args.self.now.tapes.items c.args.self.now.turn _ _) (set-set c.args.self.now.tries.items c.args.self.now.turn _ _)
