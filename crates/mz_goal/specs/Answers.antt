-- What the answers of goals say.
use Rattle.std.specs.Prelude.{◌≡◌, ℕ, Bool, true, false, List, [], ◌∷◌, ◌++◌, Option, Some, None}
use Rattle.mz_tree.specs.Plain.{Ty, Atom, Unknown_type, Named_type, Has_atom}
use Rattle.mz_decl.specs.Declarations.{Decls}
use Rattle.mz_view.specs.Steps.{plain_steps}
use Rattle.mz_view.specs.declared.step.ViewStep.{ViewStep}
use Rattle.mz_index.specs.Finding.{NoneFits}
use Rattle.mz_goal.specs.Goals.{Entry, atoms, Serves, Meets}
use Rattle.mz_goal.specs.Needs.{Need, NeedBeside, Unmet, UnmetBeside}
use Rattle.mz_goal.specs.Added.{Added}

-- the goal is met, and steps were added that lead there; or it isn't met
abbrev pub Did : Bool → Decls → List Entry → Atom ℕ → List Entry → List ViewStep → List ViewStep → Type 0
Did true D R g T p q = Meets D R g T × Added D (atoms R) (plain_steps p) (plain_steps q) (atoms T ++ g ∷ [])
Did false D R g T p q = (S : List Entry) → Meets D R g S → ⊥

-- so by nothing at all or by a permission that is alike; or there is none, and all is as before
abbrev pub Likes : Bool → Decls → List Entry → ℕ → Ty ℕ → List Entry → List ViewStep → List ViewStep → Type 0
Likes true D R x t T p q = Did true D R (Has_atom x t) T p q
Likes false D R x t T p q = NoneFits (Serves R x t) R × (t ≡ Unknown_type → ⊥) × (T ≡ R) × (q ≡ p)

-- the number of a data type
abbrev pub NumberOf : Option ℕ → Ty ℕ → Type 0
NumberOf None t = (d : ℕ) → t ≡ Named_type d → ⊥
NumberOf (Some d) t = t ≡ Named_type d

-- a goal of a command, from these entries: it is met, and steps were added that lead there; or it isn't met, and all is as
-- before
abbrev pub MeetsFrom : Bool → Decls → List (Atom ℕ) → List Entry → Atom ℕ → List (Atom ℕ) → List ViewStep → List ViewStep → Type 0
MeetsFrom true D R E g T p q = ((left : List Entry) × Meets D E g left × (T ≡ atoms left)) × Added D R (plain_steps p) (plain_steps q) (T ++ g ∷ [])
MeetsFrom false D R E g T p q = ((left : List Entry) → Meets D E g left → ⊥) × (T ≡ R) × (q ≡ p)

-- so from the state
abbrev pub MeetsNeed : Bool → Decls → List (Atom ℕ) → Atom ℕ → List (Atom ℕ) → List ViewStep → List ViewStep → Type 0
MeetsNeed true D R g T p q = Need D R g T × Added D R (plain_steps p) (plain_steps q) (T ++ g ∷ [])
MeetsNeed false D R g T p q = Unmet D R g × (T ≡ R) × (q ≡ p)

-- and so while a, which stands at this place, is set aside
abbrev pub MeetsBeside : Bool → Decls → List (Atom ℕ) → ℕ → Atom ℕ → Atom ℕ → List (Atom ℕ) → List ViewStep → List ViewStep → Type 0
MeetsBeside true D R place a g T p q = NeedBeside D R place a g T × Added D R (plain_steps p) (plain_steps q) (T ++ g ∷ [])
MeetsBeside false D R place a g T p q = UnmetBeside D R place a g × (T ≡ R) × (q ≡ p)
