-- The tables of keys and of marks. A key and a mark are known by their numbers in them, counted from 0.
use Rattle.std.specs.Prelude.{ℕ, List, [], ◌∷◌, Option, codes}
use Rattle.std.specs.List.{position_from}
use Rattle.std.specs.Str.{bytes_eq}

abbrev pub key_texts : List (List ℕ)
key_texts =
    codes "data" ∷ codes "mutable" ∷ codes "adopts" ∷ codes "sig" ∷ codes "fun" ∷ codes "consumes" ∷ codes "let" ∷ codes "if"
    ∷ codes "then" ∷ codes "else" ∷ codes "match" ∷ codes "giving" ∷ codes "result" ∷ codes "retag" ∷ codes "from" ∷ codes "to"
    ∷ codes "give" ∷ codes "take" ∷ codes "newlock" ∷ codes "lock" ∷ codes "locked" ∷ codes "acquire" ∷ codes "release"
    ∷ codes "spawn" ∷ codes "print" ∷ codes "int" ∷ codes "unknown" ∷ codes "dynamic" ∷ []

abbrev pub mark_texts : List (List ℕ)
mark_texts =
    codes "{" ∷ codes "}" ∷ codes "(" ∷ codes ")" ∷ codes ";" ∷ codes ":" ∷ codes "," ∷ codes "." ∷ codes "=" ∷ codes "*"
    ∷ codes "+" ∷ codes "-" ∷ codes "/" ∷ codes "%" ∷ codes "<-" ∷ codes "->" ∷ codes "==" ∷ codes "!=" ∷ codes "<"
    ∷ codes "<=" ∷ codes ">" ∷ codes ">=" ∷ codes "@" ∷ codes "|" ∷ []

-- the number of a text in a table
abbrev pub number_in : List (List ℕ) → List ℕ → Option ℕ
number_in table text = position_from (bytes_eq text) 0 table
