use Rattle.mz_cli.proofs.Parts.{Scanned}
use Rattle.mz_cli.proofs.input.script_start.Given as goal

abbrev pub invariant-loop-at : goal.invariant-loop-at
invariant-loop-at l = Scanned l.bytes l.start l.at
