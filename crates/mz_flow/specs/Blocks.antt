-- Permissions for a block of one name and one constructor, as the code reads them.
use Rattle.std.specs.Prelude.{◌≡◌, ℕ, List, Option, Some, None}
use Rattle.mz_tree.specs.Plain.{Ty, Atom, Block_type, Has_atom, Same_atom}

-- the names of the fields, where the permission is for a block of that name and constructor; none where it is for none
abbrev pub AreFields : ℕ → ℕ → Atom ℕ → Option (List ℕ) → Type 0
AreFields y con a None = (fields : List ℕ) (adopts : Option ℕ) → a ≡ Has_atom y (Block_type con fields adopts) → ⊥
AreFields y con a (Some fields) = (adopts : Option ℕ) × (a ≡ Has_atom y (Block_type con fields adopts))

-- what the block of a type adopts; nothing where it is no block's
abbrev pub type_adopts : Ty ℕ → Option ℕ
type_adopts (Block_type con fields adopts) = adopts
type_adopts t = None

-- and the block of a permission
abbrev pub adopts_of : Atom ℕ → Option ℕ
adopts_of (Has_atom x t) = type_adopts t
adopts_of (Same_atom x y) = None
