-- What a call that parses a whole text answers, and when.
use Rattle.std.specs.Prelude.{◌≡◌, ℕ, List, Result, Ok, Err}
use Rattle.mz_grammar.specs.Brackets.{Turn, no_brackets}
use Rattle.mz_grammar.specs.Wholes.{Fits, IsFirstWrong, IsFirstDeep}
use Rattle.mz_grammar.specs.Answers.{Stopped, Unexpected, Too_deep, No_memory}

-- it stopped for want of memory
abbrev pub IsMemory : Stopped → Type 0
IsMemory (Unexpected left) = ⊥
IsMemory (Too_deep left) = ⊥
IsMemory No_memory = Unit {0}

-- it is this value, or memory ran out
abbrev pub Unless : {A S : Type 0} → (S → Stopped) → Result A S → A → Type 0
Unless cause (Ok value) a = value ≡ a
Unless cause (Err e) a = IsMemory (cause e)

module _ {T A : Type 0} (turn : T → Turn) (limit : ℕ) (Spelled : List T → A → Type 0) where
  -- each refusal with its place
  abbrev pub IsRightStop : List T → Stopped → Type 0
  IsRightStop tokens (Unexpected left) = IsFirstWrong turn limit Spelled tokens left
  IsRightStop tokens (Too_deep left) = IsFirstDeep turn limit Spelled tokens left
  IsRightStop tokens No_memory = Unit {0}

  -- the value that the tokens spell, all of them and within the limit; or the refusal with its place
  abbrev pub IsRight : {S : Type 0} → (S → Stopped) → List T → Result A S → Type 0
  IsRight cause tokens (Ok value) = Spelled tokens value × Fits turn limit tokens
  IsRight cause tokens (Err e) = IsRightStop tokens (cause e)

  -- what is spelled within the limit is answered, with this value alone, unless memory runs out
  abbrev pub Only : {S : Type 0} → (S → Stopped) → List T → Result A S → Type 0
  Only cause tokens result = (value : A) → Spelled tokens value → Fits turn limit tokens → Unless cause result value

-- the same of a grammar without brackets: there is no limit, and nothing is too deep
module _ {T A : Type 0} (Spelled : List T → A → Type 0) where
  abbrev pub IsRightStopFlat : List T → Stopped → Type 0
  IsRightStopFlat tokens (Unexpected left) = IsFirstWrong no_brackets 0 Spelled tokens left
  IsRightStopFlat tokens (Too_deep left) = ⊥
  IsRightStopFlat tokens No_memory = Unit {0}

  abbrev pub IsRightFlat : {S : Type 0} → (S → Stopped) → List T → Result A S → Type 0
  IsRightFlat cause tokens (Ok value) = Spelled tokens value
  IsRightFlat cause tokens (Err e) = IsRightStopFlat tokens (cause e)

  abbrev pub OnlyFlat : {S : Type 0} → (S → Stopped) → List T → Result A S → Type 0
  OnlyFlat cause tokens result = (value : A) → Spelled tokens value → Unless cause result value
