-- What the code of gives and takes answers.
use Rattle.std.specs.Prelude.{◌≡◌, ℕ, List, Some, None, Result, Ok, Err, slice_get}
use Rattle.mz_tree.specs.Plain.{Ty, Atom, Block_type, Has_atom, Same_atom}
use Rattle.mz_tree.specs.View.{plain_atom}
use Rattle.mz_tree.specs.declared.types.Place.{Place}
use Rattle.mz_decl.specs.Declarations.{Decls}
use Rattle.mz_goal.specs.Needs.{Need, NeedBeside, Unmet, UnmetBeside}
use Rattle.mz_elab.specs.Acting.{AdoptsSome, FindsAdopter, with_clause}
use Rattle.mz_elab.specs.Lacking.{NoneOf}
use Rattle.mz_elab.specs.declared.adopting.Adopter.{Adopter as CodeAdopter}
use Rattle.mz_elab.specs.declared.fault.ElabFault.{ElabFault}
use Rattle.mz_elab.specs.declared.fault.ElabFault.TheVariants.{NoPermission, Memory}

-- a block that doesn't say what it adopts
abbrev pub IsBareTy : Ty ℕ → Type 0
IsBareTy (Block_type con ys None) = Unit {0}
IsBareTy t = ⊥

abbrev pub IsBare : Atom ℕ → Type 0
IsBare (Has_atom x t) = IsBareTy t
IsBare (Same_atom x y) = ⊥

-- the permission with what it adopts, where it is such a block
abbrev pub atom_clause : ℕ → Atom ℕ → Atom ℕ
atom_clause u (Has_atom x t) = Has_atom x (with_clause u t)
atom_clause u (Same_atom x y) = Same_atom x y

-- the first adopter of y's class adopts u, and says so in its place from then on; else y is wanting at `unknown`
pub record HasAdopter (D : Decls) (R : List (Atom ℕ)) (y u place : ℕ) (S : List (Atom ℕ)) : Type 0 where
  pub adopter : Atom ℕ
  pub found : FindsAdopter D R y u place adopter S
  pub stands : slice_get S place ≡ Some adopter

abbrev pub AdopterOr : Decls → List (Atom ℕ) → ℕ → Place → List (Atom ℕ) → Result CodeAdopter ElabFault → Type 0
AdopterOr D R y place S (Ok it) = HasAdopter D R y it.adopted it.place S
AdopterOr D R y place S (Err (NoPermission other a)) = (other ≡ place) × NoneOf R y (AdoptsSome D) (plain_atom a)
AdopterOr D R y place S (Err Memory) = Unit {0}

-- one goal was met while a permission is set aside; or it is wanting
abbrev pub BesideOr : {A : Type 0} → Decls → List (Atom ℕ) → ℕ → Atom ℕ → Atom ℕ → Place → List (Atom ℕ) → Result A ElabFault → Type 0
BesideOr D R at a g place T (Ok done) = NeedBeside D R at a g T
BesideOr D R at a g place T (Err (NoPermission other b)) = (other ≡ place) × UnmetBeside D R at a g × (plain_atom b ≡ g)
BesideOr D R at a g place T (Err Memory) = Unit {0}

-- one goal was met; or it is wanting
abbrev pub NeedOr : {A : Type 0} → Decls → List (Atom ℕ) → Atom ℕ → Place → List (Atom ℕ) → Result A ElabFault → Type 0
NeedOr D R g place T (Ok done) = Need D R g T
NeedOr D R g place T (Err (NoPermission other b)) = (other ≡ place) × Unmet D R g × (plain_atom b ≡ g)
NeedOr D R g place T (Err Memory) = Unit {0}
