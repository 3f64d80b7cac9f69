-- The input of `verify`: a source, and from the first line that is exactly the head of a script the script.
use Rattle.std.specs.Prelude.{◌≡◌, ℕ, List, [], ◌∷◌, ◌++◌, bytes_eq, flat_map, codes, if◌then◌else◌}
use Rattle.mz_script.specs.Cutting.{lines}

-- the most bytes of a whole input
abbrev pub input_limit : ℕ
input_limit = 67108864

-- the head of a script, with its line end
abbrev pub head_line : List ℕ
head_line = codes "%derivation 1" ++ 10 ∷ []

-- the lines before the first head
abbrev pub before_head : List (List ℕ) → List (List ℕ)
before_head [] = []
before_head (line ∷ rest) = if bytes_eq line head_line then [] else line ∷ before_head rest

-- and from it on
abbrev pub from_head : List (List ℕ) → List (List ℕ)
from_head [] = []
from_head (line ∷ rest) = if bytes_eq line head_line then line ∷ rest else from_head rest

-- lines put together
abbrev pub text_of : List (List ℕ) → List ℕ
text_of = flat_map (λ (line : List ℕ). line)

abbrev pub source_part : List ℕ → List ℕ
source_part bytes = text_of (before_head (lines bytes))

-- the script; without a head it is empty
abbrev pub script_part : List ℕ → List ℕ
script_part bytes = text_of (from_head (lines bytes))
