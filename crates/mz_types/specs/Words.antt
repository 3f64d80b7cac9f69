-- Single tokens: the tests by which the grammar knows them, and which of them are brackets. Keys and marks are known by their
-- numbers in the tables of the tokens.
use Rattle.std.specs.Prelude.{ℕ, Bool, List, ◌==◌, ◌||◌, ◌&&◌, if◌then◌else◌}
use Rattle.mz_grammar.specs.Brackets.{Turn, Opens, Closes, Neither}
use Rattle.mz_grammar.specs.Relations.{OneToken}
use Rattle.mz_token.specs.declared.token.Kind.{Kind}
use Rattle.mz_token.specs.declared.token.Kind.TheVariants as kind
use Rattle.mz_token.specs.declared.token.Token.{Token}
use Rattle.mz_token.specs.Tokens.{is_lower, is_upper, is_number, is_key, is_mark}

abbrev pub lower : Token → Bool
lower t = is_lower t.kind

abbrev pub upper : Token → Bool
upper t = is_upper t.kind

abbrev pub number : Token → Bool
number t = is_number t.kind

abbrev pub key : ℕ → Token → Bool
key n t = is_key n t.kind

abbrev pub mark : ℕ → Token → Bool
mark n t = is_mark n t.kind

-- a lower name or, where a value is called so, the key `result`
abbrev pub is_name : Bool → Kind → Bool
is_name result k = is_lower k || (result && is_key 12 k)

abbrev pub name : Bool → Token → Bool
name result t = is_name result t.kind

-- `{` and `(` open a bracket, `}` and `)` close one
abbrev pub turn_of : Kind → Turn
turn_of (kind.Mark n) = if (n == 0) || (n == 2) then Opens else (if (n == 1) || (n == 3) then Closes else Neither)
turn_of _ = Neither

abbrev pub turn : Token → Turn
turn t = turn_of t.kind

-- what tokens spell such a value
abbrev pub Spelling : Type 0 → Type 1
Spelling A = List Token → A → Type 0

abbrev pub Low : Spelling Token
Low = OneToken lower

abbrev pub Up : Spelling Token
Up = OneToken upper

abbrev pub Key : ℕ → Spelling Token
Key n = OneToken (key n)

abbrev pub Mark : ℕ → Spelling Token
Mark n = OneToken (mark n)

abbrev pub Name : Bool → Spelling Token
Name result = OneToken (name result)
