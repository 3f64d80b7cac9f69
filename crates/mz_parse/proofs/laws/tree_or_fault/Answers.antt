use Rattle.mz_parse.proofs.WholeSources.{tree_or_fault}
use Rattle.mz_parse.proofs.laws.tree_or_fault.Goals as goal

pub returns : goal.returns
returns c = tree_or_fault
