use Rattle.std.proofs.Common.{sym, ◌∙◌}
use Rattle.mz_script.proofs.laws.at_most_one_text.Goals as goal

pub returns : goal.returns
returns c = λ p scripts one other a b. a.same ∙ sym b.same
