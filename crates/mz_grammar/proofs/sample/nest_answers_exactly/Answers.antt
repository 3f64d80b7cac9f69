use Rattle.mz_grammar.proofs.Nests.{reads_nest}
use Rattle.mz_grammar.proofs.sample.nest_answers_exactly.Goals as goal

pub answers_exactly-requires-clause-reads : goal.answers_exactly-requires-clause-reads
answers_exactly-requires-clause-reads c = reads_nest 2
