-- The script that is written beside the guided state.
--
-- The state to which a script leads holds what the guided state does. Of what is duplicable it may hold more, and some less
-- often: a step that copies a permission isn't written, nor one that drops a duplicable permission. So a reader sees the
-- steps alone that say something new.
use Rattle.std.specs.Prelude.{◌++◌, ℕ, List, [], ◌∷◌, map}
use Rattle.mz_tree.specs.Plain.{Atom}
use Rattle.mz_tree.specs.Code.{Command, to_of}
use Rattle.mz_decl.specs.Declarations.{Decls}
use Rattle.mz_modes.specs.Affine.{AffineAtom}
use Rattle.mz_perm.specs.Lists.{In, SameUpToOrder}
use Rattle.mz_view.specs.Steps.{Step, Drop_step, Copy_step}
use Rattle.mz_deriv.specs.Scripts.{Item, See_item}
use Rattle.mz_deriv.specs.Walks.{Walks}
use Rattle.mz_goal.specs.Leads.{Views, Leads}
use Rattle.mz_elab.specs.Standing.{IsKnown, OfAtom}

-- a duplicable permission
abbrev pub IsSpare : Decls → Atom ℕ → Type 0
IsSpare D a = AffineAtom D a → ⊥

-- Q holds what R does: beside it only duplicable permissions of known names, and less often only duplicable ones
pub record Covers (D : Decls) (K : ℕ → Type 0) (Q R : List (Atom ℕ)) : Type 0 where
  pub extra : List (Atom ℕ)
  pub copies : List (Atom ℕ)
  pub same : SameUpToOrder (Q ++ copies) (R ++ extra)
  pub spare : (a : Atom ℕ) → In a extra → IsSpare D a × OfAtom K a
  pub held : (a : Atom ℕ) → In a copies → IsSpare D a × In a Q

-- the steps without some that copy, and some that drop a duplicable permission of known names
pub data Thinned (D : Decls) (K : ℕ → Type 0) : List Step → List Step → Type 0 where
  Thin_none : Thinned D K [] []
  Thin_kept : (s : Step) (p q : List Step) → Thinned D K p q → Thinned D K (s ∷ p) (s ∷ q)
  Thin_copy : (a : Atom ℕ) (p q : List Step) → Thinned D K p q → Thinned D K (Copy_step a ∷ p) q
  Thin_drop : (a : Atom ℕ) (p q : List Step) → IsSpare D a → OfAtom K a → Thinned D K p q → Thinned D K (Drop_step a ∷ p) q

-- the steps q lead from R to T, once what was left out is put back
pub record Shown (D : Decls) (K : ℕ → Type 0) (R : List (Atom ℕ)) (q : List Step) (T : List (Atom ℕ)) : Type 0 where
  pub whole : List Step
  pub leads : Leads D R whole T
  pub thin : Thinned D K whole q

-- steps as items
abbrev pub sees : List Step → List Item
sees p = map See_item p

-- items lead through one command: from each state that covers R to one that covers T, where the walk goes on
pub record WentFrom (D : Decls) (names : List ℕ) (K : ℕ → Type 0) (Q : List (Atom ℕ)) (c : Command) (T : List (Atom ℕ)) (items : List Item) : Type 0 where
  pub last : List (Atom ℕ)
  pub covers : Covers D K last T
  pub walks : (rest : List Command) (more : List Item) (U : List (Atom ℕ)) → Walks D (to_of c ∷ names) last rest more U → Walks D names Q (c ∷ rest) (items ++ more) U

abbrev pub Went : Decls → List ℕ → ℕ → List (Atom ℕ) → Command → ℕ → List (Atom ℕ) → List Item → Type 0
Went D names n R c m T items = (Q : List (Atom ℕ)) → Covers D (IsKnown names n) Q R → WentFrom D names (IsKnown (to_of c ∷ names) m) Q c T items

-- view steps lead from each state that covers R to one that covers T; the names that are known may grow by it
abbrev pub Comes : Decls → (ℕ → Type 0) → List (Atom ℕ) → List Step → (ℕ → Type 0) → List (Atom ℕ) → Type 0
Comes D K R p L T = (Q : List (Atom ℕ)) → Covers D K Q R → (U : List (Atom ℕ)) × Views D Q p U × Covers D L U T
