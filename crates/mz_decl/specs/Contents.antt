-- What the fields of a block hold. A name may be a number, as while a program is checked, or a value, as in what a
-- permission means.
use Rattle.std.specs.Prelude.{ℕ, zero, suc, List, [], ◌∷◌, map, Option}
use Rattle.mz_tree.specs.Plain.{Atom, Block_type, Has_atom, map_atom}
use Rattle.mz_tree.specs.Programs.{Field}
use Rattle.mz_tree.specs.Renaming.{at_or}

-- the content of a field, with these for the fields of its constructor; what is past the last is the default
abbrev pub content_over : {N : Type 0} → N → List N → Field → Atom N
content_over default ys field = map_atom (at_or default ys) field.content

-- that of each field, in declared order
abbrev pub contents_over : {N : Type 0} → N → List N → List Field → List (Atom N)
contents_over default ys fields = map (content_over default ys) fields

-- the same over names
abbrev pub content : List ℕ → Field → Atom ℕ
content = content_over 0

abbrev pub contents : List ℕ → List Field → List (Atom ℕ)
contents = contents_over 0

-- an opened block: its constructor with these names for the fields, the data type that it adopts, and the contents
abbrev pub opened : ℕ → ℕ → List ℕ → Option ℕ → List Field → List (Atom ℕ)
opened x con ys clause fields = Has_atom x (Block_type con ys clause) ∷ contents ys fields

-- so many names, one after the other: n, n + 1 and so on
abbrev pub names_from : ℕ → ℕ → List ℕ
names_from n zero = []
names_from n (suc count) = n ∷ names_from (suc n) count
