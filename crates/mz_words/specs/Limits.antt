-- The limits of options.
use Rattle.std.specs.Prelude.{◌≤◌}
use Rattle.mz_words.specs.declared.options.Options.{Options}

-- each option is within its limits
pub record AreWithinLimits (o : Options) : Type 0 where
  pub heap : 1024 ≤ o.heap
  pub most_heap : o.heap ≤ 16777216
  pub steps : 1 ≤ o.steps
  pub most_steps : o.steps ≤ 1000000
  pub tries : 1 ≤ o.tries
  pub most_tries : o.tries ≤ 4294967295
  pub workers : 1 ≤ o.workers
  pub most_workers : o.workers ≤ 16
  pub quantum : 1 ≤ o.quantum
  pub most_quantum : o.quantum ≤ 1000000
