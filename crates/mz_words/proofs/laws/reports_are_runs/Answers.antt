use Rattle.mz_words.proofs.Reporting.{reported}
use Rattle.mz_words.proofs.laws.reports_are_runs.Goals as goal

pub returns : goal.returns
returns c = reported
