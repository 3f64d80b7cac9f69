-- Equations of names place by place.
use Rattle.std.specs.Prelude.{ℕ, List, [], ◌∷◌}
use Rattle.mz_tree.specs.Plain.{Atom, Same_atom}

-- as many as both have
abbrev pub equations : List ℕ → List ℕ → List (Atom ℕ)
equations [] zs = []
equations (y ∷ ys) [] = []
equations (y ∷ ys) (z ∷ zs) = Same_atom y z ∷ equations ys zs
