-- Names of fields with their numbers.
use Rattle.std.specs.Prelude.{ℕ, ◌&&◌, Bool, true, not, List, [], ◌∷◌, map}
use Rattle.std.specs.List.{list_any}
use Rattle.std.specs.Str.{bytes_eq}
use Rattle.mz_names.specs.Names.{Names}

-- whether a name is one of these
abbrev pub is_among : List (List ℕ) → List ℕ → Bool
is_among names name = list_any (bytes_eq name) names

-- whether no name stands twice
abbrev pub are_apart : List (List ℕ) → Bool
are_apart [] = true
are_apart (name ∷ rest) = not (is_among rest name) && are_apart rest

-- the names alone
abbrev pub names_in : {A : Type 0} → Names A → List (List ℕ)
names_in {A = A} names = map (λ (one : List ℕ × A). one.0) names

-- the numbers alone
abbrev pub numbers_in : Names ℕ → List ℕ
numbers_in names = map (λ (one : List ℕ × ℕ). one.1) names
