use Rattle.std.proofs.Common.{length, ◌-◌, ◌≤◌}
use Rattle.mz_token.proofs.CutLemmas.{Scanned}
use Rattle.mz_token.proofs.scan.tokens.Given as goal

abbrev pub invariant-loop-at : goal.invariant-loop-at
invariant-loop-at l = record {
  scanned : Scanned l.bytes l.at l.items l.place;
  within : l.at ≤ length l.bytes;
}

abbrev pub decreases-loop-at : goal.decreases-loop-at
decreases-loop-at l = length l.bytes - l.at
