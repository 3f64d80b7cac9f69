-- What it is to be the first of a list that fits.
use Rattle.std.specs.Prelude.{◌≡◌, ◌<◌, ℕ, List, Some, slice_get}
use Rattle.mz_tree.specs.Plain.{Ty, Atom, Has_atom}
use Rattle.mz_perm.specs.Joining.{Joined}

-- what stands at this place fits, and nothing before it does
pub record IsFirst {A : Type 0} (P : A → Type 0) (xs : List A) (n : ℕ) (a : A) : Type 0 where
  pub stands : slice_get xs n ≡ Some a
  pub fits : P a
  pub before : (k : ℕ) (b : A) → k < n → slice_get xs k ≡ Some b → P b → ⊥

-- nothing fits
abbrev pub NoneFits : {A : Type 0} → (A → Type 0) → List A → Type 0
NoneFits P xs = (k : ℕ) (b : _) → slice_get xs k ≡ Some b → P b → ⊥

-- something fits
pub record SomeFits {A : Type 0} (P : A → Type 0) (xs : List A) : Type 0 where
  pub place : ℕ
  pub one : A
  pub stands : slice_get xs place ≡ Some one
  pub fits : P one

-- the permission is of a name of x's class, and this holds of its type
pub record InClass (R : List (Atom ℕ)) (x : ℕ) (P : Ty ℕ → Type 0) (a : Atom ℕ) : Type 0 where
  pub name : ℕ
  pub ty : Ty ℕ
  pub is : a ≡ Has_atom name ty
  pub joined : Joined R x name
  pub fits : P ty
