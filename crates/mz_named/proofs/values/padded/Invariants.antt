use Rattle.std.proofs.Common.{◌≡◌, ◌-◌, ℕ, length}
use Rattle.mz_named.specs.View.{value_in}
use Rattle.mz_named.proofs.values.padded.Given as goal

abbrev pub invariant-loop-padded : goal.invariant-loop-padded
invariant-loop-padded l = (n : ℕ) → value_in l.padded n ≡ value_in l.values n

abbrev pub decreases-loop-padded : goal.decreases-loop-padded
decreases-loop-padded l = l.count - length l.padded
