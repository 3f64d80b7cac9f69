-- The tokens of a text, over whole lists: the text is cut into pieces, each the longest where it stands.
use Rattle.std.specs.Prelude.{◌≡◌, ℕ, ◌+◌, ◌<◌, List, [], ◌∷◌, ◌++◌, length, Option, Some, None, Result, Ok, Err}
use Rattle.mz_tree.specs.declared.types.Place.{Place}
use Rattle.mz_token.specs.declared.token.Kind.{Kind}
use Rattle.mz_token.specs.declared.token.Token.{Token}
use Rattle.mz_token.specs.declared.token.Tokens.{Tokens}
use Rattle.mz_token.specs.declared.token.LexFault.{LexFault}
use Rattle.mz_token.specs.declared.token.LexFault.TheVariants.{Byte, Number, NameTooLong, Memory}
use Rattle.mz_token.specs.Shapes.{IsLongest, IsLawful, IsLongName, IsLargeNumber, kind_of}
use Rattle.mz_tree.specs.Shapes.{Shape, shape_of}
use Rattle.mz_token.specs.Places.{place_of}

pub record Piece : Type 0 where
  pub shape : Shape
  pub text : List ℕ

-- the texts of pieces, end to end
abbrev pub joined : List Piece → List ℕ
joined [] = []
joined (piece ∷ pieces) = piece.text ++ joined pieces

-- a lawful piece, and the longest where this rest follows it
pub record IsPiece (piece : Piece) (rest : List ℕ) : Type 0 where
  pub longest : IsLongest piece.shape piece.text rest
  pub lawful : IsLawful piece.shape piece.text

-- each is a piece where it stands; after the last of them comes this rest
abbrev pub IsCut : List Piece → List ℕ → Type 0
IsCut [] rest = Unit {0}
IsCut (piece ∷ pieces) rest = IsPiece piece (joined pieces ++ rest) × IsCut pieces rest

-- a word makes a token: it starts after what stands before it, and its place is the place there
abbrev pub with_token : Option Kind → List ℕ → List ℕ → List Token → List Token
with_token None before text tokens = tokens
with_token (Some kind) before text tokens = record { kind = kind; start = length before; end = length before + length text; place = place_of before } ∷ tokens

-- the tokens of pieces that stand after these bytes
abbrev pub tokens_after : List ℕ → List Piece → List Token
tokens_after before [] = []
tokens_after before (piece ∷ pieces) = with_token (kind_of piece.shape piece.text) before piece.text (tokens_after (before ++ piece.text) pieces)

-- the text is cut into pieces to its end, and these are the tokens of its words
pub record Lexes (bytes : List ℕ) (tokens : List Token) : Type 0 where
  pub pieces : List Piece
  pub all : bytes ≡ joined pieces
  pub cut : IsCut pieces []
  pub words : tokens ≡ tokens_after [] pieces

-- ---- faults

-- a byte stands there, and no piece begins with it
pub record NoPiece (rest : List ℕ) : Type 0 where
  pub more : 0 < length rest
  pub none : (front others : List ℕ) → rest ≡ front ++ others → shape_of front ≡ None

-- the longest piece there is over a limit
pub record Over (IsOver : Shape → List ℕ → Type 0) (rest : List ℕ) : Type 0 where
  pub shape : Shape
  pub text : List ℕ
  pub others : List ℕ
  pub split : rest ≡ text ++ others
  pub longest : IsLongest shape text others
  pub over : IsOver shape text

-- the longest front of lawful pieces ends at this place, and what stands there is no lawful piece
pub record FaultsAt (Stands : List ℕ → Type 0) (bytes : List ℕ) (place : Place) : Type 0 where
  pub pieces : List Piece
  pub rest : List ℕ
  pub all : bytes ≡ joined pieces ++ rest
  pub cut : IsCut pieces rest
  pub stands : Stands rest
  pub here : place ≡ place_of (joined pieces)

-- the text has this fault; want of memory is no fault of a text
abbrev pub Faults : List ℕ → LexFault → Type 0
Faults bytes (Byte place) = FaultsAt NoPiece bytes place
Faults bytes (Number place) = FaultsAt (Over IsLargeNumber) bytes place
Faults bytes (NameTooLong place) = FaultsAt (Over IsLongName) bytes place
Faults bytes Memory = ⊥

-- ---- answers

-- a refusal names a fault of the text, unless memory was wanting
abbrev pub HasCause : List ℕ → LexFault → Type 0
HasCause bytes Memory = Unit {0}
HasCause bytes (Byte place) = Faults bytes (Byte place)
HasCause bytes (Number place) = Faults bytes (Number place)
HasCause bytes (NameTooLong place) = Faults bytes (NameTooLong place)

-- these tokens were given, unless memory was wanting
abbrev pub Gives : Result Tokens LexFault → List Token → Type 0
Gives (Ok found) tokens = found.items ≡ tokens
Gives (Err Memory) tokens = Unit {0}
Gives (Err (Byte place)) tokens = ⊥
Gives (Err (Number place)) tokens = ⊥
Gives (Err (NameTooLong place)) tokens = ⊥

-- this fault was named, unless memory was wanting
abbrev pub Refuses : Result Tokens LexFault → LexFault → Type 0
Refuses (Ok found) fault = ⊥
Refuses (Err Memory) fault = Unit {0}
Refuses (Err (Byte place)) fault = Byte place ≡ fault
Refuses (Err (Number place)) fault = Number place ≡ fault
Refuses (Err (NameTooLong place)) fault = NameTooLong place ≡ fault
