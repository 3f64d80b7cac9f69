-- What the code of a read, a write and a change of tag answers as it looks for its block.
use Rattle.std.specs.Prelude.{◌≡◌, ◌+◌, ℕ, List, Option, Some, None, Result, Ok, Err, length, slice_get}
use Rattle.mz_tree.specs.Plain.{Atom, Named_type, Block_type, Has_atom}
use Rattle.mz_tree.specs.Programs.{Con}
use Rattle.mz_tree.specs.View.{plain_atom}
use Rattle.mz_tree.specs.declared.types.Place.{Place}
use Rattle.mz_decl.specs.Contents.{opened, names_from}
use Rattle.mz_decl.specs.Declarations.{Decls, clause_of, only_of}
use Rattle.mz_index.specs.Finding.{NoneFits, InClass}
use Rattle.mz_elab.specs.Acting.{FindsBlock, OpensAt}
use Rattle.mz_elab.specs.Lacking.{NoBlock}
use Rattle.mz_elab.specs.Sought.{IsFirstAt}
use Rattle.mz_elab.specs.declared.fault.ElabFault.{ElabFault}
use Rattle.mz_elab.specs.declared.fault.ElabFault.TheVariants.{NoPermission, Memory}

-- the permission at `place` is opened as a block of the constructor, with these names for its fields
pub record OpensAs (D : Decls) (R : List (Atom ℕ)) (place name d con : ℕ) (names : List ℕ) (S : List (Atom ℕ)) (at : ℕ) : Type 0 where
  pub made : Con
  pub is_con : slice_get D.cons con ≡ Some made
  pub opens : OpensAt D R place d (opened name con names (clause_of D d) made.fields) S at

-- the same, with the next fresh names, and m is the next one after them
pub record OpensFresh (D : Decls) (R : List (Atom ℕ)) (place d con n : ℕ) (S : List (Atom ℕ)) (m at : ℕ) : Type 0 where
  pub name : ℕ
  pub stands : slice_get R place ≡ Some (Has_atom name (Named_type d))
  pub made : Con
  pub is_con : slice_get D.cons con ≡ Some made
  pub opens : OpensAt D R place d (opened name con (names_from n (length made.fields)) (clause_of D d) made.fields) S at
  pub numbers : m ≡ n + length made.fields

-- the first permission at the data type, where the constructor is its only one
abbrev pub ClosedAt : Decls → List (Atom ℕ) → ℕ → ℕ → ℕ → Option ℕ → Type 0
ClosedAt D R x d con None = only_of D d ≡ Some con → NoneFits (InClass R x (λ t. t ≡ Named_type d)) R
ClosedAt D R x d con (Some place) = (only_of D d ≡ Some con) × IsFirstAt R x (λ t. t ≡ Named_type d) place

-- the block of x that was found, with a name for each field; it stands at this place
pub record BlockAt (D : Decls) (R : List (Atom ℕ)) (x con n : ℕ) (S : List (Atom ℕ)) (m at : ℕ) : Type 0 where
  pub name : ℕ
  pub names : List ℕ
  pub clause : Option ℕ
  pub found : FindsBlock D R x con n S m at name names clause
  pub stands : slice_get S at ≡ Some (Has_atom name (Block_type con names clause))
  pub made : Con
  pub is_con : slice_get D.cons con ≡ Some made
  pub many : length names ≡ length made.fields

-- it, or the permission that is wanting
abbrev pub FindsOr : Decls → List (Atom ℕ) → ℕ → ℕ → ℕ → Place → List (Atom ℕ) → ℕ → Result ℕ ElabFault → Type 0
FindsOr D R x con n place S m (Ok at) = BlockAt D R x con n S m at
FindsOr D R x con n place S m (Err (NoPermission other a)) = (other ≡ place) × NoBlock D R x con (plain_atom a)
FindsOr D R x con n place S m (Err Memory) = Unit {0}

-- a permission of the data type stands at the place
pub record HoldsNamed (R : List (Atom ℕ)) (at d : ℕ) : Type 0 where
  pub name : ℕ
  pub stands : slice_get R at ≡ Some (Has_atom name (Named_type d))
