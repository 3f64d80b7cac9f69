-- What a call answers that reads from the front of tokens and gives those left, and when.
use Rattle.std.specs.Prelude.{◌≡◌, ℕ, false, List, ◌++◌, Option, Some, Result, Ok, Err}
use Rattle.mz_grammar.specs.Reading.{passes}
use Rattle.mz_grammar.specs.Brackets.{room}
use Rattle.mz_grammar.specs.Wholes.{Fits, EndsAt}
use Rattle.mz_grammar.specs.Contract.{IsRightStop, IsMemory}
use Rattle.mz_token.specs.declared.token.Token.{Token}
use Rattle.mz_types.specs.declared.stop.Stop.{Stop}
use Rattle.mz_types.specs.Words.{Spelling, turn, key, mark}
use Rattle.mz_types.specs.Stops.{cause}

-- no `adopts` behind a type or an atom, which might be a part of it
abbrev pub AfterType : Option Token → Type 0
AfterType next = (passes (key 2) next ≡ false) × Unit {0}

-- nor `*` behind atoms
abbrev pub AfterAtoms : Option Token → Type 0
AfterAtoms next = (passes (mark 9) next ≡ false) × AfterType next

-- the tokens before the rest spell the value and can't go on, and as many brackets may be opened behind them as before
pub record IsFront {A : Type 0} (Spelled : Spelling A) (depth : ℕ) (tokens rest : List Token) (value : A) : Type 0 where
  pub front : List Token
  pub split : tokens ≡ front ++ rest
  pub spelled : Spelled front value
  pub fits : room turn front (Some depth) ≡ Some depth
  pub ends : EndsAt Spelled front rest

-- it is this answer, or memory ran out
abbrev pub IsAnswer : {A X : Type 0} → (X → A × List Token) → Result X Stop → A × List Token → Type 0
IsAnswer view (Ok x) wanted = view x ≡ wanted
IsAnswer view (Err stop) wanted = IsMemory (cause stop)

-- what a front of the tokens spells, with the tokens left; or the refusal with its place
abbrev pub IsRightFront : {A X : Type 0} → Spelling A → ℕ → List Token → (X → A × List Token) → Result X Stop → Type 0
IsRightFront Spelled depth tokens view (Ok x) = IsFront Spelled depth tokens (view x).1 (view x).0
IsRightFront Spelled depth tokens view (Err stop) = IsRightStop turn depth Spelled tokens (cause stop)

-- what a front spells within the limit and can't go on is answered, unless memory runs out
abbrev pub OnlyFront : {A X : Type 0} → Spelling A → ℕ → List Token → (X → A × List Token) → Result X Stop → Type 0
OnlyFront {A} Spelled depth tokens view result =
    (front rest : List Token) (value : A) → tokens ≡ front ++ rest → Spelled front value → EndsAt Spelled front rest → Fits turn depth front → IsAnswer view result (value, rest)
