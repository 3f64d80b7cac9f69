use Rattle.mz_parse.proofs.WholeSources.{one_tree}
use Rattle.mz_parse.proofs.laws.at_most_one_tree.Goals as goal

pub returns : goal.returns
returns c = one_tree
