use Rattle.std.proofs.Common.{◌≡◌}
use Rattle.mz_words.specs.Plain.{view_of}
use Rattle.mz_thread_tests.specs.Ready.{KeepsView}
use Rattle.mz_thread_tests.proofs.runs.store_all.Given as goal

abbrev pub invariant-loop-i : goal.invariant-loop-i
invariant-loop-i l = record { kept : KeepsView l.fn.words l.words; zero : (view_of l.words).actor ≡ 0 }
