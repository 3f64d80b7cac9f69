use Rattle.mz_words.proofs.Printing.{prints_entries}
use Rattle.mz_words.proofs.laws.runs_print_their_entries.Goals as goal

pub returns : goal.returns
returns c = prints_entries
