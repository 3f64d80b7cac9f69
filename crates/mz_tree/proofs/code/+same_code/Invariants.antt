use Rattle.std.proofs.Common.{◌≡◌, ℕ, ◌<◌}
use Rattle.std.specs.Prelude.{slice_get}
use Rattle.mz_tree.proofs.code.+same_code.Given as goal

abbrev pub invariant-same_commands-loop-i : goal.invariant-same_commands-loop-i
invariant-same_commands-loop-i l = (k : ℕ) → k < l.i → slice_get l.left k ≡ slice_get l.right k

abbrev pub invariant-same_cases-loop-i : goal.invariant-same_cases-loop-i
invariant-same_cases-loop-i l = (k : ℕ) → k < l.i → slice_get l.left k ≡ slice_get l.right k
