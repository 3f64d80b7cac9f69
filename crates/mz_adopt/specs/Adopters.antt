-- What an adopter adopts, as the code reads it from a permission.
use Rattle.std.specs.Prelude.{ℕ, Option, Some, None}
use Rattle.mz_tree.specs.Plain.{Ty, Atom}
use Rattle.mz_decl.specs.Declarations.{Decls}
use Rattle.mz_adopt.specs.Adopting.{TypeAdopts, IsAdopter}

-- the data type that a block of the type adopts; none where it adopts none
abbrev pub TypeAdoptsOf : Decls → Ty ℕ → Option ℕ → Type 0
TypeAdoptsOf D t None = (u : ℕ) → TypeAdopts D u t → ⊥
TypeAdoptsOf D t (Some u) = TypeAdopts D u t

-- the data type whose blocks y adopts by the permission; none where it says of none
abbrev pub AdoptsOf : Decls → ℕ → Atom ℕ → Option ℕ → Type 0
AdoptsOf D y a None = (u : ℕ) → IsAdopter D y u a → ⊥
AdoptsOf D y a (Some u) = IsAdopter D y u a
