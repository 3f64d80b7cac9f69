use Rattle.mz_parse.proofs.WholeSources.{tree_no_fault}
use Rattle.mz_parse.proofs.laws.no_tree_and_fault.Goals as goal

pub returns : goal.returns
returns c = tree_no_fault
