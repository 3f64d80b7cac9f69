-- The labels by which joined names are told.
use Rattle.std.specs.Prelude.{◌≡◌, ◌↔◌, ◌==◌, ℕ, Bool, true, false, List, [], ◌∷◌}
use Rattle.mz_tree.specs.Plain.{Atom}
use Rattle.mz_perm.specs.Joining.{Joined}
use Rattle.mz_index.specs.declared.labels.Link.{Link}

-- the first where the test holds, else the second
abbrev pub either_label : Bool → ℕ → ℕ → ℕ
either_label true n m = n
either_label false n m = m

-- where one link leads
abbrev pub step : Link → ℕ → ℕ
step link n = either_label (n == link.from) link.to n

-- where the links, one after the other, lead
abbrev pub label : List Link → ℕ → ℕ
label [] n = n
label (link ∷ links) n = label links (step link n)

-- just the joined names have one label
abbrev pub AreLabels : List Link → List (Atom ℕ) → Type 0
AreLabels links R = (x y : ℕ) → (label links x ≡ label links y) ↔ Joined R x y
