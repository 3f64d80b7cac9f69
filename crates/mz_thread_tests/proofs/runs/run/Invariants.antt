use Rattle.mz_thread_tests.specs.Ready.{IsReady}
use Rattle.mz_thread_tests.proofs.runs.run.Given as goal

abbrev pub invariant-loop-turn : goal.invariant-loop-turn
invariant-loop-turn l = record { ready : IsReady l.code l.options l.thread l.words }
