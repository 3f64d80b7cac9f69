-- Names with what they stand for. Where a name comes twice, the first counts.
use Rattle.std.specs.Prelude.{ℕ, List, [], ◌∷◌, Option, Some, None, if◌then◌else◌}
use Rattle.std.specs.Str.{bytes_eq}

-- names with what they stand for, the earliest first
abbrev pub Names : Type 0 → Type 0
Names A = List (List ℕ × A)

-- what a name stands for
abbrev pub find : {A : Type 0} → Names A → List ℕ → Option A
find [] name = None
find (one ∷ rest) name = if bytes_eq one.0 name then Some one.1 else find rest name
