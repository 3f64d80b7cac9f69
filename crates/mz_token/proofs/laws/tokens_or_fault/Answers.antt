use Rattle.mz_token.proofs.EachText.{tokens_or_fault}
use Rattle.mz_token.proofs.laws.tokens_or_fault.Goals as goal

pub returns : goal.returns
returns c = tokens_or_fault
