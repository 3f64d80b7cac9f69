-- What the code of locks answers.
use Rattle.std.specs.Prelude.{◌≡◌, ◌∷◌, [], ℕ, List, Result, Ok, Err}
use Rattle.mz_tree.specs.Plain.{Atom}
use Rattle.mz_tree.specs.View.{plain_atom}
use Rattle.mz_tree.specs.declared.types.Place.{Place}
use Rattle.mz_decl.specs.Declarations.{Decls}
use Rattle.mz_goal.specs.Needs.{FirstUnmet}
use Rattle.mz_elab.specs.Acting.{Meeting}
use Rattle.mz_elab.specs.declared.fault.ElabFault.{ElabFault}
use Rattle.mz_elab.specs.declared.fault.ElabFault.TheVariants.{NoPermission, Memory}

-- goals were met and a permission was added; or the first of the goals is wanting that isn't met
abbrev pub MeetsOr : {A : Type 0} → Decls → List (Atom ℕ) → List (Atom ℕ) → Atom ℕ → Place → List (Atom ℕ) → Result A ElabFault → Type 0
MeetsOr D R goals a place T (Ok done) = Meeting D R goals (a ∷ []) T
MeetsOr D R goals a place T (Err (NoPermission other b)) = (other ≡ place) × FirstUnmet D R goals (plain_atom b)
MeetsOr D R goals a place T (Err Memory) = Unit {0}
