-- What the answers say.
use Rattle.std.specs.Prelude.{◌≡◌, ℕ, ◌+◌, List, length, Some, slice_get, Result, Ok, Err}
use Rattle.mz_tree.specs.Plain.{Atom, Has_atom, Same_atom}
use Rattle.mz_decl.specs.Declarations.{Decls}
use Rattle.mz_modes.specs.Affine.{ExclusiveTy}
use Rattle.mz_modes.specs.Answers.{LeadsNowhere}
use Rattle.mz_perm.specs.Lists.{In, Which, First_copy}
use Rattle.mz_view.specs.declared.spots.Spot.{Spot}
use Rattle.mz_view.specs.declared.spots.Spot.TheVariants.{At, Past}
use Rattle.mz_view.specs.declared.step.ViewFault.{ViewFault}
use Rattle.mz_view.specs.declared.step.ViewFault.TheVariants.{NotAnInstance, Memory}

-- a state that was R is T now: the one to which the step leads where the first of equal copies goes; or the step leads
-- nowhere, whichever goes, and the state is as before; or memory is wanting, and it is as before
abbrev pub Becomes : {A : Type 0} → (Which → List (Atom ℕ) → Type 0) → List (Atom ℕ) → List (Atom ℕ) → Result A ViewFault → Type 0
Becomes After R T (Ok done) = After First_copy T
Becomes After R T (Err NotAnInstance) = LeadsNowhere After × (T ≡ R)
Becomes After R T (Err Memory) = T ≡ R

-- a state after, or why there is none
abbrev pub Gives : (Which → List (Atom ℕ) → Type 0) → Result (List (Atom ℕ)) ViewFault → Type 0
Gives After (Ok T) = After First_copy T
Gives After (Err NotAnInstance) = LeadsNowhere After
Gives After (Err Memory) = Unit {0}

-- the permission says that x has an exclusive type
abbrev pub IsExclusive : Decls → ℕ → Atom ℕ → Type 0
IsExclusive D x (Has_atom y t) = (y ≡ x) × ExclusiveTy D t
IsExclusive D x (Same_atom y z) = ⊥

-- there is such a place, and an equation of its name and of z is held
pub record HasEqual (R : List (Atom ℕ)) (ys : List ℕ) (i z : ℕ) : Type 0 where
  pub name : ℕ
  pub is_name : slice_get ys i ≡ Some name
  pub equal : In (Same_atom name z) R

-- what stands at a place: a name, or nothing so far past the end
abbrev pub IsSpot : Spot → List ℕ → ℕ → Type 0
IsSpot (At name) ys k = slice_get ys k ≡ Some name
IsSpot (Past more) ys k = k ≡ length ys + more
