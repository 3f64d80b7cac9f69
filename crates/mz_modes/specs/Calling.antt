-- What a call asks of its callee, and which needs it gives back.
use Rattle.std.specs.Prelude.{◌≡◌, ◌⊎◌, ℕ, false, List, [], ◌∷◌, Some, slice_get}
use Rattle.mz_tree.specs.Plain.{Atom, Function_type, Has_atom}
use Rattle.mz_tree.specs.Programs.{Need, Sig}
use Rattle.mz_decl.specs.Declarations.{Decls}
use Rattle.mz_perm.specs.Lists.{In}
use Rattle.mz_modes.specs.Affine.{AffineAtom}

-- the permission is held, and says that a name is a function of a signature with so many parameters
pub record IsCallee (D : Decls) (R : List (Atom ℕ)) (name count : ℕ) (a : Atom ℕ) : Type 0 where
  pub number : ℕ
  pub function : a ≡ Has_atom name (Function_type number)
  pub held : In a R
  pub sig : Sig
  pub declared : slice_get D.sigs number ≡ Some sig
  pub many : count ≡ sig.count

-- a call gives a need back where it isn't consumed and its permission is affine; a duplicable one the caller still has
abbrev pub Returns : Decls → Need → Type 0
Returns D n = (n.consumed ≡ false) × AffineAtom D n.atom

-- these are the needs that a call gives back, in order
abbrev pub GivesBack : Decls → List Need → List (Atom ℕ) → Type 0
GivesBack D [] back = back ≡ []
GivesBack D (n ∷ needs) back = (Returns D n × ((more : List (Atom ℕ)) × (back ≡ n.atom ∷ more) × GivesBack D needs more)) ⊎ ((Returns D n → ⊥) × GivesBack D needs back)
