-- What the functions that read from the front of tokens answer, by the readers on lists.
use Rattle.std.specs.Prelude.{List, Result}
use Rattle.mz_grammar.specs.Reading.{Read}
use Rattle.mz_grammar.specs.Answers.{Stopped, Unexpected as Unexpected_at, Too_deep, No_memory, Gives as GivesFor}
use Rattle.mz_token.specs.declared.token.Token.{Token}
use Rattle.mz_types.specs.declared.stop.Stop.{Stop}
use Rattle.mz_types.specs.declared.stop.Stop.TheVariants.{Unexpected, TooDeep, Memory}

-- the cause of a stop
abbrev pub cause : Stop → Stopped
cause (Unexpected left) = Unexpected_at left
cause (TooDeep left) = Too_deep left
cause Memory = No_memory

-- it gives what the reader on lists reads, or stops where that does
abbrev pub Gives : {X A : Type 0} → (X → A × List Token) → Result X Stop → Read Token A → Type 0
Gives view result read = GivesFor cause view result read
