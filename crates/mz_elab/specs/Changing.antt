-- What the code of a write and a change of tag answers.
use Rattle.std.specs.Prelude.{◌≡◌, ℕ, List, Option, Result, Ok, Err}
use Rattle.mz_tree.specs.Plain.{Atom, Block_type, Has_atom}
use Rattle.mz_tree.specs.View.{plain_atom}
use Rattle.mz_tree.specs.declared.types.Place.{Place}
use Rattle.mz_decl.specs.Declarations.{Decls}
use Rattle.mz_modes.specs.Affine.{IsMutableCon}
use Rattle.mz_flow.specs.Commands.{LeavesAdopts}
use Rattle.mz_elab.specs.Lacking.{CantChange}
use Rattle.mz_elab.specs.Finding.{BlockAt}
use Rattle.mz_elab.specs.declared.fault.ElabFault.{ElabFault}
use Rattle.mz_elab.specs.declared.fault.ElabFault.TheVariants.{NoPermission, Memory}

-- the block of x, whose data type is mutable; or the permission that is wanting
pub record MutableAt (D : Decls) (R : List (Atom ℕ)) (x con n : ℕ) (S : List (Atom ℕ)) (m at : ℕ) : Type 0 where
  pub mutable : IsMutableCon D con
  pub block : BlockAt D R x con n S m at

abbrev pub ChangesOr : Decls → List (Atom ℕ) → ℕ → ℕ → ℕ → Place → List (Atom ℕ) → ℕ → Result ℕ ElabFault → Type 0
ChangesOr D R x con n place S m (Ok at) = MutableAt D R x con n S m at
ChangesOr D R x con n place S m (Err (NoPermission other a)) = (other ≡ place) × CantChange D R x con (plain_atom a)
ChangesOr D R x con n place S m (Err Memory) = Unit {0}

-- the block with another tag
pub record IsRetagged (D : Decls) (x tag : ℕ) (ys : List ℕ) (clause : Option ℕ) (a : Atom ℕ) : Type 0 where
  pub left : Option ℕ
  pub leaves : LeavesAdopts D tag clause left
  pub is : a ≡ Has_atom x (Block_type tag ys left)
