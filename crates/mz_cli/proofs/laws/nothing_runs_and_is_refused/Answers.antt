use Rattle.mz_cli.proofs.OneRefusals.{run_or_refusal}
use Rattle.mz_cli.proofs.laws.nothing_runs_and_is_refused.Goals as goal

pub returns : goal.returns
returns c = run_or_refusal
