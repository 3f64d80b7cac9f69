-- What stands at the front of a text: what the parts of the scan promise to each other.
use Rattle.std.specs.Prelude.{◌≡◌, ℕ, false, List, [], ◌∷◌, ◌++◌, length, Option, Some, None}
use Rattle.mz_tree.specs.declared.types.Place.{Place}
use Rattle.mz_token.specs.declared.token.Kind.{Kind}
use Rattle.mz_token.specs.declared.token.Token.{Token}
use Rattle.mz_token.specs.declared.token.LexFault.{LexFault}
use Rattle.mz_token.specs.declared.token.LexFault.TheVariants as fault
use Rattle.mz_token.specs.declared.pieces.Cause.{Cause}
use Rattle.mz_token.specs.declared.pieces.Cause.TheVariants.{Byte, Number, NameTooLong}
use Rattle.mz_tree.specs.Bytes.{is_blank, is_small, is_capital, is_digit}
use Rattle.mz_token.specs.Shapes.{IsLongName, IsLargeNumber, kind_of}
use Rattle.mz_tree.specs.Shapes.{begins, begins_comment}
use Rattle.mz_token.specs.Lexes.{Piece, IsPiece, NoPiece, Over}

-- a lawful piece of this kind and size stands at the front
pub record BeginsWith (bytes : List ℕ) (kind : Option Kind) (size : ℕ) : Type 0 where
  pub piece : Piece
  pub rest : List ℕ
  pub split : bytes ≡ piece.text ++ rest
  pub stands : IsPiece piece rest
  pub same_kind : kind ≡ kind_of piece.shape piece.text
  pub same_size : size ≡ length piece.text

-- no lawful piece stands at the front, for this reason
abbrev pub Stops : Cause → List ℕ → Type 0
Stops Byte bytes = NoPiece bytes
Stops Number bytes = Over IsLargeNumber bytes
Stops NameTooLong bytes = Over IsLongName bytes

-- the fault with this cause at a place
abbrev pub fault_at : Cause → Place → LexFault
fault_at Byte place = fault.Byte place
fault_at Number place = fault.Number place
fault_at NameTooLong place = fault.NameTooLong place

-- the token of a word, as a list
abbrev pub word_of : Option Kind → ℕ → ℕ → Place → List Token
word_of None start end place = []
word_of (Some kind) start end place = record { kind = kind; start = start; end = end; place = place } ∷ []

-- what begins no white space, comment, name or number
pub record IsOther (bytes : List ℕ) : Type 0 where
  pub blank : begins is_blank bytes ≡ false
  pub small : begins is_small bytes ≡ false
  pub capital : begins is_capital bytes ≡ false
  pub digit : begins is_digit bytes ≡ false
  pub comment : begins_comment bytes ≡ false
