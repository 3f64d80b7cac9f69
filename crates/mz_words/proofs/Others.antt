-- What is kept of the others stays where a call changes what is kept of one actor.
use Rattle.std.proofs.Common.{◌≡◌, List, ap, ◌∙◌}
use Rattle.mz_tape.specs.Tapes.{TapeView}
use Rattle.mz_words.specs.declared.opening.Tries.{Tries}
use Rattle.mz_words.specs.Plain.{others}

pub same_others : (tapes tapes' : List TapeView) (tries tries' : List Tries) → tapes ≡ tapes' → tries ≡ tries' → others tapes tries ≡ others tapes' tries'
same_others tapes tapes' tries tries' d e = ap (λ x. others x tries) d ∙ ap (λ x. others tapes' x) e
