-- What follows for a whole text, where a function reads the grammar: its answers are right, and each right answer is its answer.
use Rattle.std.specs.Prelude.{◌≡◌, ℕ, List, [], ◌∷◌, length, Result, Ok, Err, ◌⊎◌}
use Rattle.mz_grammar.specs.Reading.{Read, Wrong, Deep}
use Rattle.mz_grammar.specs.Brackets.{Turn, Neither}
use Rattle.mz_grammar.specs.Wholes.{Fits, IsFirstWrong, IsFirstDeep, HasFault}
use Rattle.mz_grammar.specs.Answers.{Stopped, Unexpected, Too_deep}
use Rattle.mz_grammar.specs.Contract.{IsRight}

-- a value, if no token is left behind it
abbrev pub at_end : {T A : Type 0} → A → List T → Result A Stopped
at_end a [] = Ok a
at_end a (t ∷ rest) = Err (Unexpected (length (t ∷ rest)))

-- a reader's answer as the answer for a whole text
abbrev pub settled : {T A : Type 0} → Read T A → Result A Stopped
settled (Ok x) = at_end x.0 x.1
settled (Err (Wrong rest)) = Err (Unexpected (length rest))
settled (Err (Deep rest)) = Err (Too_deep (length rest))

-- what a reader answers for a whole text
abbrev pub whole : {T A : Type 0} → (List T → Read T A) → List T → Result A Stopped
whole reader tokens = settled (reader tokens)

module _ {T A : Type 0} (turn : T → Turn) (limit : ℕ) (reader : List T → Read T A) (Spelled : List T → A → Type 0) where
  -- each answer has its reason
  abbrev pub IsSound : Type 0
  IsSound = (tokens : List T) → IsRight turn limit Spelled (λ stopped. stopped) tokens (whole reader tokens)

  -- what is spelled within the limit is answered, so no text has two values
  abbrev pub IsComplete : Type 0
  IsComplete = (tokens : List T) (value : A) → Spelled tokens value → Fits turn limit tokens → whole reader tokens ≡ Ok value

  -- where a token is the first that can't stand, it is the one that is told
  abbrev pub TellsFirstWrong : Type 0
  TellsFirstWrong = (tokens : List T) (left : ℕ) → IsFirstWrong turn limit Spelled tokens left → whole reader tokens ≡ Err (Unexpected left)

  -- where a bracket is the first that is one too many, it is the one that is told
  abbrev pub TellsFirstDeep : Type 0
  TellsFirstDeep = (tokens : List T) (left : ℕ) → IsFirstDeep turn limit Spelled tokens left → whole reader tokens ≡ Err (Too_deep left)

  -- nothing is too deep
  abbrev pub IsNeverDeep : Type 0
  IsNeverDeep = (tokens : List T) (left : ℕ) → IsFirstDeep turn limit Spelled tokens left → ⊥

-- each text spells a value within the limit, or has a fault
abbrev pub ValueOrFault : {T A : Type 0} → (T → Turn) → ℕ → (List T → A → Type 0) → Type 0
ValueOrFault {T} {A} turn limit Spelled = (tokens : List T) → ((value : A) × Spelled tokens value × Fits turn limit tokens) ⊎ HasFault turn limit Spelled tokens

-- no token is a bracket
abbrev pub HasNoBrackets : {T : Type 0} → (T → Turn) → Type 0
HasNoBrackets {T} turn = (t : T) → turn t ≡ Neither

-- every text fits
abbrev pub AllFit : {T : Type 0} → (T → Turn) → ℕ → Type 0
AllFit {T} turn limit = (tokens : List T) → Fits turn limit tokens
