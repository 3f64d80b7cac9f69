use Rattle.mz_grammar.proofs.NoBrackets.{all_fit}
use Rattle.mz_grammar.proofs.laws.fits_without_brackets.Goals as goal

pub returns-clause-fit : goal.returns-clause-fit
returns-clause-fit g c = all_fit g.G.Grammar.turn c.requires.no_brackets g.G.Grammar.limit
