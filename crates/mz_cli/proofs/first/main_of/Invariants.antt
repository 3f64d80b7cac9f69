use Rattle.std.proofs.Common.{◌≡◌, ℕ, ◌<◌, Some, slice_get, codes}
use Rattle.mz_cli.proofs.first.main_of.Given as goal

abbrev pub invariant-loop-function : goal.invariant-loop-function
invariant-loop-function l = (k : ℕ) (f : _) → k < l.function-index → slice_get l.program.funs k ≡ Some f → f.name ≡ codes "main" → ⊥
