-- What a piece of a text may be, and which piece stands at a place.
use Rattle.std.specs.Prelude.{◌≡◌, ℕ, ◌+◌, ◌-◌, ◌*◌, ◌^◌, ◌≤◌, ◌<◌, Bool, false, nat_eq, List, [], ◌∷◌, ◌++◌, length, Option, Some, None, if◌then◌else◌, codes}
use Rattle.mz_tree.specs.Spellings.{key_texts, number_in}
use Rattle.mz_tree.specs.Shapes.{Shape, Blank_shape, Comment_shape, Lower_shape, Upper_shape, Number_shape, Mark_shape, shape_of}
use Rattle.mz_token.specs.declared.token.Kind.{Kind}
use Rattle.mz_token.specs.declared.token.Kind.TheVariants.{Lower, Upper, Number, Key, Mark}

-- the longest wins: the text has this shape, and with more of what follows it is no piece
pub record IsLongest (shape : Shape) (text rest : List ℕ) : Type 0 where
  pub shaped : shape_of text ≡ Some shape
  pub longest : (more others : List ℕ) → rest ≡ more ++ others → 0 < length more → shape_of (text ++ more) ≡ None

-- the value of decimal digits that follow a number
abbrev pub value_from : ℕ → List ℕ → ℕ
value_from n [] = n
value_from n (d ∷ digits) = value_from (10 * n + (d - 48)) digits

-- the value of decimal digits, leading zeros or none
abbrev pub value_of : List ℕ → ℕ
value_of digits = value_from 0 digits

-- a name of more than 64 bytes
abbrev pub IsLongName : Shape → List ℕ → Type 0
IsLongName Lower_shape text = 64 < length text
IsLongName Upper_shape text = 64 < length text
IsLongName _ text = ⊥

-- a number that is no u64
abbrev pub IsLargeNumber : Shape → List ℕ → Type 0
IsLargeNumber Number_shape text = 2 ^ 64 ≤ value_of text
IsLargeNumber _ text = ⊥

-- within the limits
abbrev pub IsLawful : Shape → List ℕ → Type 0
IsLawful Lower_shape text = length text ≤ 64
IsLawful Upper_shape text = length text ≤ 64
IsLawful Number_shape text = value_of text < 2 ^ 64
IsLawful _ text = Unit {0}

-- a lower name is a key where it stands in the table of keys
abbrev pub key_or_lower : Option ℕ → Kind
key_or_lower None = Lower
key_or_lower (Some number) = Key number

-- the kind of a word; white space and comments have none
abbrev pub kind_of : Shape → List ℕ → Option Kind
kind_of Blank_shape text = None
kind_of Comment_shape text = None
kind_of Lower_shape text = Some (key_or_lower (number_in key_texts text))
kind_of Upper_shape text = Some Upper
kind_of Number_shape text = Some (Number (value_of text))
kind_of (Mark_shape number) text = Some (Mark number)
