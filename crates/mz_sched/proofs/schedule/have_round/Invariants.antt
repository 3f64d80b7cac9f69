use Rattle.mz_sched.specs.Running.{Running, HasRefusal, InRound, state_of}
use Rattle.mz_sched.proofs.schedule.have_round.Given as goal

abbrev pub invariant-loop-k : goal.invariant-loop-k
invariant-loop-k l = record {
  running : Running l.code l.options l.words l.threads;
  goes : InRound l.code l.options (state_of l.fn.words l.fn.threads) l.k l.words l.threads;
  refusal : HasRefusal l.fn.threads → HasRefusal l.threads;
}
