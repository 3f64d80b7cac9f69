-- What it is that tokens are a program's, and what is wrong where they aren't.
use Rattle.std.specs.Prelude.{◌≡◌, ℕ, ◌-◌, length, Option, Some, None, slice_get, Result, Ok, Err}
use Rattle.mz_grammar.specs.Wholes.{Fits, IsFirstWrong, IsFirstDeep}
use Rattle.mz_tree.specs.declared.types.Place.{Place}
use Rattle.mz_token.specs.declared.token.Token.{Token}
use Rattle.mz_token.specs.declared.token.Tokens.{Tokens}
use Rattle.mz_token.specs.Places.{place_of}
use Rattle.mz_types.specs.Words.{turn}
use Rattle.mz_parse.specs.declared.tree.Surface.{Surface}
use Rattle.mz_parse.specs.declared.tree.SyntaxFault.{SyntaxFault}
use Rattle.mz_parse.specs.declared.tree.SyntaxFault.TheVariants.{Unexpected, TooDeep, Memory}
use Rattle.mz_parse.specs.Grammar.{IsProgram}

-- the tokens are a program's by the grammar, and this is its tree; brackets may be open in any number
pub record Parses (tokens : Tokens) (surface : Surface) : Type 0 where
  pub text : surface.text ≡ tokens.text
  pub spelled : IsProgram tokens.items surface.declarations

-- so many brackets, `{` and `(` together, may be open at once
abbrev pub limit : ℕ
limit = 200

abbrev pub WithinLimit : Tokens → Type 0
WithinLimit tokens = Fits turn limit tokens.items

-- ---- places

abbrev pub place_or : Place → Option Token → Place
place_or end None = end
place_or end (Some token) = token.place

-- the place from which so many tokens are left: that of the first of them or, where none is left, the one after the last byte
abbrev pub place_left : Tokens → ℕ → Place
place_left tokens left = place_or (place_of tokens.text) (slice_get tokens.items (length tokens.items - left))

-- ---- faults

-- the first token that can't stand where it does, or the end that comes too early, is there
abbrev pub IsUnexpected : Tokens → Place → Type 0
IsUnexpected tokens place = (left : ℕ) × IsFirstWrong turn limit IsProgram tokens.items left × (place ≡ place_left tokens left)

-- the first bracket that is one too many is there
abbrev pub IsTooDeep : Tokens → Place → Type 0
IsTooDeep tokens place = (left : ℕ) × IsFirstDeep turn limit IsProgram tokens.items left × (place ≡ place_left tokens left)

-- the tokens have this fault; want of memory is no fault of theirs
abbrev pub Faults : Tokens → SyntaxFault → Type 0
Faults tokens (Unexpected place) = IsUnexpected tokens place
Faults tokens (TooDeep place) = IsTooDeep tokens place
Faults tokens Memory = ⊥

-- ---- answers

-- a refusal names a fault of the tokens, unless memory was wanting
abbrev pub HasCause : Tokens → SyntaxFault → Type 0
HasCause tokens (Unexpected place) = IsUnexpected tokens place
HasCause tokens (TooDeep place) = IsTooDeep tokens place
HasCause tokens Memory = Unit {0}

-- this tree was given, unless memory was wanting
abbrev pub Gives : Result Surface SyntaxFault → Surface → Type 0
Gives (Ok found) surface = found ≡ surface
Gives (Err (Unexpected place)) surface = ⊥
Gives (Err (TooDeep place)) surface = ⊥
Gives (Err Memory) surface = Unit {0}

-- this fault was named, unless memory was wanting
abbrev pub Refuses : Result Surface SyntaxFault → SyntaxFault → Type 0
Refuses (Ok found) fault = ⊥
Refuses (Err (Unexpected place)) fault = Unexpected place ≡ fault
Refuses (Err (TooDeep place)) fault = TooDeep place ≡ fault
Refuses (Err Memory) fault = Unit {0}
