-- What holds of the grammar, for all tokens. result says whether the key `result` may stand for a name.
use Rattle.std.specs.Prelude.{◌≡◌, ◌↔◌, ◌⊎◌, ℕ, Bool, List, [], Option, Ok, length}
use Rattle.mz_grammar.specs.Reading.{Read}
use Rattle.mz_grammar.specs.Readers.{Reads}
use Rattle.mz_grammar.specs.Wholes.{HasFault}
use Rattle.mz_token.specs.declared.token.Token.{Token}
use Rattle.mz_types.specs.declared.tree.SurfaceType.{SurfaceType}
use Rattle.mz_types.specs.Words.{Spelling, turn}
use Rattle.mz_types.specs.Grammar.{TypeOver, IsType}
use Rattle.mz_types.specs.Fronts.{IsFront}

-- the readers of each limit read the grammar, with this behind
abbrev pub AreRead : {A : Type 0} → (ℕ → List Token → Read Token A) → Spelling A → (Option Token → Type 0) → Type 0
AreRead reader Spelled MayFollow = (depth : ℕ) → Reads turn (reader depth) Spelled MayFollow depth depth

-- the tokens of each value are read as that value, where as many brackets may be opened as there are tokens
abbrev pub IsReadWhole : {A : Type 0} → (ℕ → List Token → Read Token A) → Spelling A → Type 0
IsReadWhole {A} reader Spelled = (tokens : List Token) (value : A) → Spelled tokens value → reader (length tokens) tokens ≡ Ok (value, [])

-- tokens spell at most one value
abbrev pub AtMostOne : {A : Type 0} → Spelling A → Type 0
AtMostOne {A} Spelled = (tokens : List Token) (value other : A) → Spelled tokens value → Spelled tokens other → value ≡ other

-- a front of the tokens spells a value within the limit and can't go on, or a token is the first that can't stand, or a bracket the
-- first that is one too many
abbrev pub FrontOrFault : {A : Type 0} → Spelling A → Type 0
FrontOrFault {A} Spelled = (depth : ℕ) (tokens : List Token) → ((rest : List Token) × (value : A) × IsFront Spelled depth tokens rest value) ⊎ HasFault turn depth Spelled tokens

-- a type is what the grammar says of it, with types in its locks
abbrev pub HoldsItself : Type 0
HoldsItself = (result : Bool) (tokens : List Token) (type : SurfaceType) → IsType result tokens type ↔ TypeOver result (IsType result) tokens type
