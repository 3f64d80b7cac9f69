use Rattle.mz_sched.proofs.OneReport.{one}
use Rattle.mz_sched.proofs.laws.one_report.Goals as goal

pub returns : goal.returns
returns c = one
