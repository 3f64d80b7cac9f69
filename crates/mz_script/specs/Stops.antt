-- What the functions that read from the front of bytes, or of lines, answer, by the readers on lists.
use Rattle.std.specs.Prelude.{List, Result}
use Rattle.mz_grammar.specs.Reading.{Read}
use Rattle.mz_grammar.specs.Answers.{Stopped, Unexpected as Unexpected_at, No_memory, Gives as GivesFor}
use Rattle.mz_script.specs.declared.read.stop.Stop.{Stop}
use Rattle.mz_script.specs.declared.read.stop.Stop.TheVariants.{Unexpected, Memory}

-- the cause of a stop
abbrev pub cause : Stop → Stopped
cause (Unexpected left) = Unexpected_at left
cause Memory = No_memory

-- it gives what the reader on lists reads, or stops where that does
abbrev pub Gives : {T X A : Type 0} → (X → A × List T) → Result X Stop → Read T A → Type 0
Gives view result read = GivesFor cause view result read
