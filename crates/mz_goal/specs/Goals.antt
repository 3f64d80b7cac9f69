-- How a goal is met: one constructor for each of the guided rules, in the order in which they are tried.
--
-- A goal works on a list of entries, each a permission in its place with its mark. An immutable block that a fold opens
-- is used from then on: no goal that comes of the same goal of a command opens it again. What a command has set aside
-- stays in its place and isn't seen. What is added goes to the end. A rule is used where no rule before it
-- applies; a goal of a data type takes the first block that may be folded, and where the fields of that one aren't met
-- the goal isn't.
use Rattle.std.specs.Prelude.{◌≡◌, ◌⊎◌, ℕ, List, [], ◌∷◌, ◌++◌, map, length, Option, Some, None, slice_get, slice_set}
use Rattle.std.specs.List.{remove}
use Rattle.mz_tree.specs.Plain.{Ty, Atom, Unknown_type, Dynamic_type, Named_type, Block_type, Has_atom, Same_atom}
use Rattle.mz_tree.specs.Programs.{Con}
use Rattle.mz_decl.specs.Declarations.{Decls, clause_of}
use Rattle.mz_modes.specs.Affine.{IsMutableCon, Affine, AffineTy, ExclusiveTy}
use Rattle.mz_perm.specs.Joining.{Joined}
use Rattle.mz_decl.specs.Contents.{contents}
use Rattle.mz_index.specs.Classes.{AreAlike}
use Rattle.mz_index.specs.Finding.{IsFirst, NoneFits, SomeFits}

-- what goals may do with a permission
pub data Mark : Type 0 where
  Unused : Mark
  Used : Mark
  Aside : Mark

-- a permission in its place
pub record Entry : Type 0 where
  pub atom : Atom ℕ
  pub mark : Mark

-- the permissions without their marks
abbrev pub atoms : List Entry → List (Atom ℕ)
atoms R = map (λ (e : Entry). e.atom) R

-- as each goal of a command begins
abbrev pub unused : Atom ℕ → Entry
unused a = record { atom = a; mark = Unused }

-- what is set aside isn't seen
abbrev pub IsSeen : Mark → Type 0
IsSeen Unused = Unit {0}
IsSeen Used = Unit {0}
IsSeen Aside = ⊥

-- a permission for a name of x's class, at a type of which this holds
pub record Offers (R : List Entry) (x : ℕ) (P : Ty ℕ → Type 0) (e : Entry) : Type 0 where
  pub name : ℕ
  pub ty : Ty ℕ
  pub is : e.atom ≡ Has_atom name ty
  pub joined : Joined (atoms R) x name
  pub fits : P ty
  pub seen : IsSeen e.mark

-- at a type that is alike
abbrev pub Serves : List Entry → ℕ → Ty ℕ → Entry → Type 0
Serves R x t e = Offers R x (λ u. AreAlike (atoms R) u t) e

-- a block that may be folded to d: of a constructor of d, with as many names as that has fields, one that adopts nothing or
-- what d adopts, and not used
pub record MayFold (D : Decls) (R : List Entry) (x d : ℕ) (e : Entry) : Type 0 where
  pub name : ℕ
  pub con : ℕ
  pub names : List ℕ
  pub adopts : Option ℕ
  pub made : Con
  pub joined : Joined (atoms R) x name
  pub is : e.atom ≡ Has_atom name (Block_type con names adopts)
  pub is_con : slice_get D.cons con ≡ Some made
  pub data_type : made.variety ≡ d
  pub long : length names ≡ length made.fields
  pub clause : (adopts ≡ None) ⊎ (adopts ≡ clause_of D d)
  pub mark : e.mark ≡ Unused

-- the list while the fields are met: a mutable block goes, and may be adopted; another is used
abbrev pub Opened : Decls → List Entry → ℕ → Atom ℕ → ℕ → ℕ → List Entry → Type 0
Opened D R n a y con S = (IsMutableCon D con × (S ≡ remove R n ++ unused (Has_atom y Dynamic_type) ∷ []))
    ⊎ ((IsMutableCon D con → ⊥) × (S ≡ slice_set R n (record { atom = a; mark = Used })))

-- the list after the fields are met: what is duplicable is added
abbrev pub Closed : Decls → List Entry → ℕ → ℕ → List Entry → Type 0
Closed D S x d T = (Affine D d × (T ≡ S)) ⊎ ((Affine D d → ⊥) × (T ≡ S ++ unused (Has_atom x (Named_type d)) ∷ []))

mutual
  -- the goal is met, and this is left
  pub data Meets (D : Decls) : List Entry → Atom ℕ → List Entry → Type 0 where
    -- names of one class are equal
    Same_met : (R : List Entry) (x z : ℕ) → Joined (atoms R) x z → Meets D R (Same_atom x z) R
    -- of each name nothing may be said
    Unknown_met : (R : List Entry) (x : ℕ) → Meets D R (Has_atom x Unknown_type) R
    -- a duplicable permission for a name of the class and at a type that is alike stays
    Alike_kept : (R : List Entry) (x : ℕ) (t : Ty ℕ) → (t ≡ Unknown_type → ⊥) → (AffineTy D t → ⊥) → SomeFits (Serves R x t) R → Meets D R (Has_atom x t) R
    -- an affine one goes: the first
    Alike_taken : (R : List Entry) (x : ℕ) (t : Ty ℕ) (n : ℕ) (e : Entry) → AffineTy D t → IsFirst (Serves R x t) R n e → Meets D R (Has_atom x t) (remove R n)
    -- what is held at an exclusive type may be adopted
    Dynamic_met : (R : List Entry) (x : ℕ) → NoneFits (Serves R x Dynamic_type) R → SomeFits (Offers R x (ExclusiveTy D)) R → Meets D R (Has_atom x Dynamic_type) (R ++ unused (Has_atom x Dynamic_type) ∷ [])
    -- a block of a constructor of d is opened, each field's content is a goal, in order, and it is closed
    Fold_met : (R : List Entry) (x d n : ℕ) (e : Entry) (O S T : List Entry) → NoneFits (Serves R x (Named_type d)) R → (b : IsFirst (MayFold D R x d) R n e) →
        Opened D R n e.atom b.fits.name b.fits.con O → MeetsAll D O (contents b.fits.names b.fits.made.fields) S → Closed D S x d T → Meets D R (Has_atom x (Named_type d)) T

  -- several goals, one after the other
  pub data MeetsAll (D : Decls) : List Entry → List (Atom ℕ) → List Entry → Type 0 where
    None_left : (R : List Entry) → MeetsAll D R [] R
    One_more : (R : List Entry) (a : Atom ℕ) (p : List (Atom ℕ)) (S T : List Entry) → Meets D R a S → MeetsAll D S p T → MeetsAll D R (a ∷ p) T
