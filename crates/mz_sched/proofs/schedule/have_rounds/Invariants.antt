use Rattle.mz_sched.specs.Running.{Running, AfterRounds, state_of}
use Rattle.mz_sched.proofs.schedule.have_rounds.Given as goal

abbrev pub invariant-loop-round : goal.invariant-loop-round
invariant-loop-round l = record {
  running : Running l.code l.options l.words l.threads;
  goes : AfterRounds l.code l.options (state_of l.fn.words l.fn.threads) l.words l.threads;
}
