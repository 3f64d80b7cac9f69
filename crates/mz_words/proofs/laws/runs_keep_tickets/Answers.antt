use Rattle.mz_words.proofs.Ticketing.{keeps_tickets}
use Rattle.mz_words.proofs.laws.runs_keep_tickets.Goals as goal

pub returns : goal.returns
returns c = keeps_tickets
