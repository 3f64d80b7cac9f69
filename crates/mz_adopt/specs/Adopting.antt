-- What giving a block to its adopter and taking it back do to a state. Permissions that are added stand at the end, in the
-- order in which they are named. Of equal copies of a permission any may go; the calls take the first.
use Rattle.std.specs.Prelude.{◌≡◌, ℕ, List, [], ◌∷◌, ◌++◌, Option, Some}
use Rattle.mz_tree.specs.Plain.{Ty, Atom, Unknown_type, Dynamic_type, Named_type, Block_type, Has_atom, Same_atom}
use Rattle.mz_tree.specs.Code.{Op, Give_op, Take_op}
use Rattle.mz_decl.specs.Declarations.{Decls, clause_of}
use Rattle.mz_perm.specs.Lists.{In, Which, TakesBy}

-- a block of the type adopts blocks of data type u
abbrev pub TypeAdopts : Decls → ℕ → Ty ℕ → Type 0
TypeAdopts D u (Block_type con fields adopts) = adopts ≡ Some u
TypeAdopts D u (Named_type d) = clause_of D d ≡ Some u
TypeAdopts D u _ = ⊥

-- the permission says that y adopts blocks of data type u
abbrev pub IsAdopter : Decls → ℕ → ℕ → Atom ℕ → Type 0
IsAdopter D y u (Has_atom x t) = (x ≡ y) × TypeAdopts D u t
IsAdopter D y u (Same_atom x z) = ⊥

-- a block is given: its permission is taken out first, and the adopter's must still stand then
pub record Gives (which : Which) (D : Decls) (R : List (Atom ℕ)) (c x y : ℕ) (a : Atom ℕ) (T : List (Atom ℕ)) : Type 0 where
  pub adopted : ℕ
  pub adopter : IsAdopter D y adopted a
  pub rest : List (Atom ℕ)
  pub taken : TakesBy which (Has_atom x (Named_type adopted)) R rest
  pub held : In a rest
  pub new : T ≡ (rest ++ Has_atom x Dynamic_type ∷ []) ++ Has_atom c Unknown_type ∷ []

-- a block is taken back: it may be asked for, and its permission is added
pub record Takes (D : Decls) (R : List (Atom ℕ)) (c x y : ℕ) (a : Atom ℕ) (T : List (Atom ℕ)) : Type 0 where
  pub adopted : ℕ
  pub adopter : IsAdopter D y adopted a
  pub held : In a R
  pub may_ask : In (Has_atom x Dynamic_type) R
  pub new : T ≡ (R ++ Has_atom x (Named_type adopted) ∷ []) ++ Has_atom c Unknown_type ∷ []

-- the rule of a give, by whether a permission is named that it uses. Another command has no rule here
abbrev pub GiveRule : Which → Decls → List (Atom ℕ) → ℕ → Op → Option (Atom ℕ) → List (Atom ℕ) → Type 0
GiveRule which D R c (Give_op x y) (Some a) T = Gives which D R c x y a T
GiveRule which D R c op uses T = ⊥

-- the same of a take
abbrev pub TakeRule : Decls → List (Atom ℕ) → ℕ → Op → Option (Atom ℕ) → List (Atom ℕ) → Type 0
TakeRule D R c (Take_op x y) (Some a) T = Takes D R c x y a T
TakeRule D R c op uses T = ⊥

-- the rule of each of the two. Another command has no rule here
abbrev pub AdoptionRule : Which → Decls → List (Atom ℕ) → ℕ → Op → Option (Atom ℕ) → List (Atom ℕ) → Type 0
AdoptionRule which D R c (Give_op x y) uses T = GiveRule which D R c (Give_op x y) uses T
AdoptionRule which D R c (Take_op x y) uses T = TakeRule D R c (Take_op x y) uses T
AdoptionRule which D R c op uses T = ⊥
