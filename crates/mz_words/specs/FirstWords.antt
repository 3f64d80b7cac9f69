-- What stands at the opening of a run: the words, and an empty record of each actor.
use Rattle.std.specs.Prelude.{◌≤◌, ◌≡◌, ℕ, ◌-◌, List, [], ◌∷◌, None, replicate}
use Rattle.mz_tape.specs.Tapes.{TapeView}
use Rattle.mz_words.specs.declared.opening.Tries.{Tries}
use Rattle.mz_words.specs.Raw.{opening_word}
use Rattle.mz_words.specs.Views.{word_in}

-- the header, in which thread 0 is to run this function, and zeros
abbrev pub first_words : ℕ → ℕ → List ℕ
first_words size main = 197 ∷ 1 ∷ 1 ∷ 0 ∷ 0 ∷ 1 ∷ main ∷ replicate (size - 7) 0

-- the words of a list are those at the opening
abbrev pub AreFirst : ℕ → List ℕ → Type 0
AreFirst main words = (p : ℕ) → word_in words p ≡ opening_word main p

-- a tape without an entry and with room for those of a start and an end
abbrev pub IsFreshTape : TapeView → Type 0
IsFreshTape tape = (tape.list ≡ []) × (4 ≤ tape.spare)

-- no try has failed
abbrev pub no_tries : Tries
no_tries = record { lost = 0; note = None }
