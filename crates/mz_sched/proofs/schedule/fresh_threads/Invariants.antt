use Rattle.std.proofs.Common.{◌≡◌, ℕ, length, Some}
use Rattle.std.specs.Prelude.{slice_get}
use Rattle.mz_words.specs.Steps.{opening}
use Rattle.mz_thread.specs.declared.thread.Thread.{Thread}
use Rattle.mz_sched.proofs.schedule.fresh_threads.Given as goal

abbrev pub invariant-loop-k : goal.invariant-loop-k
invariant-loop-k l = record {
  many : length l.threads.items ≡ l.k;
  each : (k : ℕ) (t : Thread) → slice_get l.threads.items k ≡ Some t → (t.actor ≡ k) × (t.machine ≡ opening);
}
