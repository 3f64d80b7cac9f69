-- What making a lock, releasing it and starting a thread have in common.
use Rattle.std.specs.Prelude.{◌≡◌, ℕ, List, [], ◌∷◌, ◌++◌}
use Rattle.mz_tree.specs.Plain.{Atom}
use Rattle.mz_decl.specs.Declarations.{Decls}
use Rattle.mz_modes.specs.Affine.{AffineAtom}
use Rattle.mz_perm.specs.Lists.{Which}
use Rattle.mz_perm.specs.Using.{UsesUpAllBy}

-- these are used up, one after the other, and one permission is added
pub record Spends (which : Which) (D : Decls) (R wanted : List (Atom ℕ)) (added : Atom ℕ) (T : List (Atom ℕ)) : Type 0 where
  pub rest : List (Atom ℕ)
  pub used : UsesUpAllBy which (AffineAtom D) wanted R rest
  pub new : T ≡ rest ++ added ∷ []
