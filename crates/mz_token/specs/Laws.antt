-- What holds of every text.
use Rattle.std.specs.Prelude.{◌≡◌, ℕ, List, ◌⊎◌}
use Rattle.mz_token.specs.declared.token.Token.{Token}
use Rattle.mz_token.specs.declared.token.LexFault.{LexFault}
use Rattle.mz_token.specs.Lexes.{Lexes, Faults}

-- a text has at most one list of tokens
abbrev pub AtMostOneList : Type 0
AtMostOneList = (bytes : List ℕ) (tokens others : List Token) → Lexes bytes tokens → Lexes bytes others → tokens ≡ others

-- a text has at most one fault
abbrev pub AtMostOneFault : Type 0
AtMostOneFault = (bytes : List ℕ) (fault other : LexFault) → Faults bytes fault → Faults bytes other → fault ≡ other

-- a text with a fault has no list of tokens
abbrev pub NoListAndFault : Type 0
NoListAndFault = (bytes : List ℕ) (tokens : List Token) (fault : LexFault) → Lexes bytes tokens → Faults bytes fault → ⊥

-- a text has a list of tokens or a fault
abbrev pub TokensOrFault : Type 0
TokensOrFault = (bytes : List ℕ) → ((tokens : List Token) × Lexes bytes tokens) ⊎ ((fault : LexFault) × Faults bytes fault)
