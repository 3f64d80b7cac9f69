-- What callers ask of tokens: their text, their spans and their kinds.
use Rattle.std.specs.Prelude.{ℕ, ◌≤◌, ◌<◌, Bool, true, false, ◌==◌, List, [], ◌∷◌, slice_range}
use Rattle.mz_token.specs.declared.token.Kind.{Kind}
use Rattle.mz_token.specs.declared.token.Kind.TheVariants.{Lower, Upper, Number, Key, Mark}
use Rattle.mz_token.specs.declared.token.Token.{Token}

-- the bytes of a text from the token's start up to its end
abbrev pub text_of : List ℕ → Token → List ℕ
text_of bytes token = slice_range bytes token.start token.end

-- the spans are not empty and stand one after another, from the first number on and up to the last
abbrev pub InOrder : ℕ → List Token → ℕ → Type 0
InOrder from [] size = from ≤ size
InOrder from (token ∷ tokens) size = (from ≤ token.start) × (token.start < token.end) × InOrder token.end tokens size

-- the span of a token stands in a text of this size
abbrev pub IsWithin : ℕ → Token → Type 0
IsWithin size token = (token.start ≤ token.end) × (token.end ≤ size)

abbrev pub is_lower : Kind → Bool
is_lower Lower = true
is_lower _ = false

abbrev pub is_upper : Kind → Bool
is_upper Upper = true
is_upper _ = false

abbrev pub is_number : Kind → Bool
is_number (Number value) = true
is_number _ = false

abbrev pub is_key : ℕ → Kind → Bool
is_key number (Key key) = key == number
is_key number _ = false

abbrev pub is_mark : ℕ → Kind → Bool
is_mark number (Mark mark) = mark == number
is_mark number _ = false
