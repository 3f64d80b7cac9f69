use Rattle.std.proofs.Common.{◌≡◌, ◌++◌, drop}
use Rattle.mz_words.specs.Tickets.{prints_among}
use Rattle.mz_print.specs.Prints.{all_entries}
use Rattle.mz_print_tests.proofs.tests.tickets.all_prints.Given as goal

abbrev pub invariant-loop-entry : goal.invariant-loop-entry
invariant-loop-entry l = l.found.items ++ prints_among l.entry-iterator.entries.now ≡ l.initial.found.items ++ prints_among l.initial.entry-iterator.entries.now

abbrev pub invariant-loop-k : goal.invariant-loop-k
invariant-loop-k l = l.found.items ++ prints_among (all_entries (drop l.k l.parts)) ≡ prints_among (all_entries l.parts)
