use Rattle.std.proofs.Common.{◌<◌, ℕ, slice_get}
use Rattle.mz_thread.specs.Keeping.{IsForwardAt}
use Rattle.mz_thread_tests.proofs.forward.goes_forward.Given as goal

abbrev pub invariant-loop-i : goal.invariant-loop-i
invariant-loop-i l = record { so_far : (at : ℕ) → at < l.i → IsForwardAt at (slice_get l.fn.code.instrs at) }
