use Rattle.mz_elab.proofs.OneWay.{guided_same}
use Rattle.mz_elab.proofs.laws.leads_to_one_list.Goals as goal

pub returns : goal.returns
returns c = guided_same
