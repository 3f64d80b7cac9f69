use Rattle.mz_grammar.proofs.WholeTexts.{is_sound, is_complete, tells_first_wrong, tells_first_deep, value_or_fault}
use Rattle.mz_grammar.proofs.laws.answers_exactly.Goals as goal

pub returns-clause-sound : goal.returns-clause-sound
returns-clause-sound g c = is_sound c.requires.reads c.requires.may_end

pub returns-clause-complete : goal.returns-clause-complete
returns-clause-complete g c = is_complete c.requires.reads c.requires.may_end

pub returns-clause-first_wrong : goal.returns-clause-first_wrong
returns-clause-first_wrong g c = tells_first_wrong c.requires.reads c.requires.may_end

pub returns-clause-first_deep : goal.returns-clause-first_deep
returns-clause-first_deep g c = tells_first_deep c.requires.reads c.requires.may_end

pub returns-clause-one_of_them : goal.returns-clause-one_of_them
returns-clause-one_of_them g c = value_or_fault c.requires.reads c.requires.may_end
