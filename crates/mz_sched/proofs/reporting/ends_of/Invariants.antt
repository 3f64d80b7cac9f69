use Rattle.std.proofs.Common.{◌≡◌}
use Rattle.std.specs.Prelude.{map, take}
use Rattle.mz_words.specs.declared.ends.End.{End}
use Rattle.mz_words.specs.declared.stages.Stage.TheVariants.{Over}
use Rattle.mz_thread.specs.declared.thread.Thread.{Thread}
use Rattle.mz_sched.proofs.reporting.ends_of.Given as goal

abbrev pub invariant-loop-thread : goal.invariant-loop-thread
invariant-loop-thread l = map (λ (e : End). Over e) l.ends.items ≡ map (λ (t : Thread). t.machine.stage) (take l.thread-index l.threads)
