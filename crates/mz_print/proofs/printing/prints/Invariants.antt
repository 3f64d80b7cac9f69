use Rattle.std.proofs.Common.{◌≡◌, ◌<◌, drop, vec_len}
use Rattle.std.specs.Prelude.{All}
use Rattle.mz_words.specs.Tickets.{prints_among}
use Rattle.mz_print.specs.Prints.{all_entries}
use Rattle.mz_print.proofs.Placing.{placed}
use Rattle.mz_print.proofs.printing.prints.Given as goal

abbrev pub invariant-loop-entry : goal.invariant-loop-entry
invariant-loop-entry l = record {
  long : vec_len l.numbers ≡ vec_len l.initial.numbers;
  within : All (λ e. e.seen < vec_len l.initial.numbers) (prints_among l.entry-iterator.entries.now);
  places : placed l.entry-iterator.entries.now l.numbers.items ≡ placed l.initial.entry-iterator.entries.now l.initial.numbers.items;
}

abbrev pub invariant-loop-k : goal.invariant-loop-k
invariant-loop-k l = record {
  long : vec_len l.numbers ≡ vec_len l.initial.numbers;
  within : All (λ e. e.seen < vec_len l.initial.numbers) (prints_among (all_entries (drop l.k l.parts)));
  places : placed (all_entries (drop l.k l.parts)) l.numbers.items ≡ placed (all_entries l.parts) l.initial.numbers.items;
}
