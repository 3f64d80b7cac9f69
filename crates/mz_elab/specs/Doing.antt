-- What the code of one command answers.
use Rattle.std.specs.Prelude.{◌≡◌, ◌++◌, ◌∷◌, [], ℕ, List, Option, None, Result, Ok, Err}
use Rattle.mz_tree.specs.Plain.{Atom}
use Rattle.mz_tree.specs.Code.{Op}
use Rattle.mz_tree.specs.View.{plain_atom}
use Rattle.mz_tree.specs.declared.types.Place.{Place}
use Rattle.mz_decl.specs.Declarations.{Decls}
use Rattle.mz_deriv.specs.Scripts.{Item, Do_item, No_script_cases}
use Rattle.mz_view.specs.Steps.{Step}
use Rattle.mz_goal.specs.Needs.{FirstUnmet}
use Rattle.mz_elab.specs.Scripting.{Shown, sees}
use Rattle.mz_elab.specs.Acting.{Acts, Meeting}
use Rattle.mz_elab.specs.Lacking.{LacksOp}
use Rattle.mz_elab.specs.declared.fault.ElabFault.{ElabFault}
use Rattle.mz_elab.specs.declared.fault.ElabFault.TheVariants.{NoPermission, Memory}

-- the item of a command without branches
abbrev pub does : Option (Atom ℕ) → List Item
does uses = Do_item uses No_script_cases [] ∷ []

-- the guided rules lead through the command; or it lacks a permission at its place
abbrev pub ActsOr : {A : Type 0} → Decls → List (Atom ℕ) → ℕ → ℕ → Op → Place → List (Atom ℕ) → ℕ → Result A ElabFault → Type 0
ActsOr D R n c op place T m (Ok done) = Acts D R n c op T m
ActsOr D R n c op place T m (Err (NoPermission other a)) = (other ≡ place) × LacksOp D R op (plain_atom a)
ActsOr D R n c op place T m (Err Memory) = Unit {0}

-- goals were met, a permission was added, and the steps and the item were written; or the first of the goals is wanting that
-- isn't met
pub record Met (D : Decls) (K : ℕ → Type 0) (R goals : List (Atom ℕ)) (a : Atom ℕ) (T : List (Atom ℕ)) (before after : List Item) : Type 0 where
  pub meets : Meeting D R goals (a ∷ []) T
  pub steps : List Step
  pub shown : Shown D K R steps (meets.left ++ goals)
  pub is : after ≡ (before ++ sees steps) ++ does None

abbrev pub MeetsThen : {A : Type 0} → Decls → (ℕ → Type 0) → List (Atom ℕ) → List (Atom ℕ) → Place → Atom ℕ → List (Atom ℕ) → List Item → List Item → Result A ElabFault → Type 0
MeetsThen D K R goals place a T before after (Ok done) = Met D K R goals a T before after
MeetsThen D K R goals place a T before after (Err (NoPermission other b)) = (other ≡ place) × FirstUnmet D R goals (plain_atom b)
MeetsThen D K R goals place a T before after (Err Memory) = Unit {0}
