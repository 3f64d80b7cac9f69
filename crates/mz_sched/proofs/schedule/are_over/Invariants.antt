use Rattle.std.proofs.Common.{◌≡◌, ◌<◌, ℕ, Some}
use Rattle.std.specs.Prelude.{slice_get}
use Rattle.mz_thread.specs.declared.thread.Thread.{Thread}
use Rattle.mz_thread.specs.Keeping.{IsOver}
use Rattle.mz_sched.proofs.schedule.are_over.Given as goal

abbrev pub invariant-loop-thread : goal.invariant-loop-thread
invariant-loop-thread l = (k : ℕ) (t : Thread) → k < l.thread-index → slice_get l.threads k ≡ Some t → IsOver t.machine.stage
