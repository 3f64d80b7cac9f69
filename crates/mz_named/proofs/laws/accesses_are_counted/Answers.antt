use Rattle.mz_named.proofs.CountedNames.{counted}
use Rattle.mz_named.proofs.laws.accesses_are_counted.Goals as goal

pub returns : goal.returns
returns c = counted
