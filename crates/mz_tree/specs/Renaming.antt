-- Names put for names.
use Rattle.std.specs.Prelude.{ℕ, List, slice_index_or}

-- the n-th of a list, and this one past the last
abbrev pub at_or : {A : Type 0} → A → List A → ℕ → A
at_or default all n = slice_index_or all n default

-- the n-th of some names, and 0 past the last
abbrev pub name_at : List ℕ → ℕ → ℕ
name_at names = at_or 0 names
