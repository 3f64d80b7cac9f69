-- What the code looks for in a class, each the first of its sort.
use Rattle.std.specs.Prelude.{◌≡◌, ◌==◌, ◌||◌, ◌&&◌, nat_le, nat_lt, ℕ, Bool, true, List, Option, Some, None, Result, Ok, Err, length, slice_get}
use Rattle.std.specs.List.{list_any}
use Rattle.mz_tree.specs.Plain.{Ty, Atom, Unknown_type, Named_type, Has_atom, Same_atom}
use Rattle.mz_tree.specs.Programs.{Con, Sig}
use Rattle.mz_tree.specs.View.{plain_atom}
use Rattle.mz_tree.specs.declared.types.Place.{Place}
use Rattle.mz_decl.specs.Declarations.{Decls}
use Rattle.mz_perm.specs.Lists.{In}
use Rattle.mz_perm.specs.Occurrence.{in_type}
use Rattle.mz_index.specs.Finding.{IsFirst, NoneFits, InClass}
use Rattle.mz_index.specs.Tests.{Test, Block_test, Block_of_test, Variety_test, Function_test, Lock_test, Any_test}
use Rattle.mz_elab.specs.Acting.{BlockOf, SignedWith, AdoptsBy, ByData, AdoptsSome, GuardsSome}
use Rattle.mz_elab.specs.Opening.{BlockIn}
use Rattle.mz_elab.specs.Lacking.{NoneOf}
use Rattle.mz_elab.specs.declared.fault.ElabFault.{ElabFault}
use Rattle.mz_elab.specs.declared.fault.ElabFault.TheVariants.{NoPermission, Memory}
use Rattle.mz_elab.specs.declared.finding.Sought.{Sought as CodeSought}
use Rattle.mz_elab.specs.declared.finding.Sought.TheVariants.{Open, Closed, Known, Signed, Adopter, AnyLock, Held}

pub data Sought : Type 0 where
  -- a block of that constructor, with a name for each field
  Open_sought : (con : ℕ) → Sought
  -- that data type
  Closed_sought : (data_type : ℕ) → Sought
  -- a block of a constructor of that data type
  Known_sought : (data_type : ℕ) → Sought
  -- a signature with so many parameters
  Signed_sought : (count : ℕ) → Sought
  -- an exclusive type that says what its blocks adopt
  Adopter_sought : Sought
  -- a lock
  Lock_sought : Sought
  -- a type that says something and names these names alone
  Held_sought : (names : List ℕ) → Sought

abbrev pub plain_sought : CodeSought → Sought
plain_sought (Open con) = Open_sought con
plain_sought (Closed number) = Closed_sought number
plain_sought (Known number) = Known_sought number
plain_sought (Signed count) = Signed_sought count
plain_sought Adopter = Adopter_sought
plain_sought AnyLock = Lock_sought
plain_sought (Held names) = Held_sought names

-- what it asks of a type
abbrev pub IsSought : Decls → Sought → Ty ℕ → Type 0
IsSought D (Open_sought con) t = BlockOf D con t
IsSought D (Closed_sought d) t = t ≡ Named_type d
IsSought D (Known_sought d) t = BlockIn D d t
IsSought D (Signed_sought count) t = SignedWith D count t
IsSought D Adopter_sought t = AdoptsSome D t
IsSought D Lock_sought t = GuardsSome t
IsSought D (Held_sought names) t = (t ≡ Unknown_type → ⊥) × ((n : ℕ) → in_type n t ≡ true → In n names)

-- what an index is asked for
abbrev pub test_for : Sought → Test
test_for (Open_sought con) = Block_of_test con
test_for (Closed_sought d) = Variety_test d
test_for (Known_sought d) = Block_test
test_for (Signed_sought count) = Function_test
test_for Adopter_sought = Any_test
test_for Lock_sought = Lock_test
test_for (Held_sought names) = Any_test

-- it is so of a permission's type
abbrev pub OfTy : (Ty ℕ → Type 0) → Atom ℕ → Type 0
OfTy P (Has_atom x t) = P t
OfTy P (Same_atom x y) = ⊥

-- the place of the first in x's class, or there is none
pub record IsFirstAt (R : List (Atom ℕ)) (x : ℕ) (P : Ty ℕ → Type 0) (n : ℕ) : Type 0 where
  pub one : Atom ℕ
  pub first : IsFirst (InClass R x P) R n one

abbrev pub FirstAt : List (Atom ℕ) → ℕ → (Ty ℕ → Type 0) → Option ℕ → Type 0
FirstAt R x P None = NoneFits (InClass R x P) R
FirstAt R x P (Some n) = IsFirstAt R x P n

-- the place of the first of the sort in x's class; or at this place x is wanting at `unknown`
abbrev pub FindsOr : Decls → List (Atom ℕ) → ℕ → Sought → Place → Result ℕ ElabFault → Type 0
FindsOr D R x s place (Ok n) = IsFirstAt R x (IsSought D s) n
FindsOr D R x s place (Err (NoPermission other a)) = (other ≡ place) × NoneOf R x (IsSought D s) (plain_atom a)
FindsOr D R x s place (Err Memory) = Unit {0}

-- a constructor with so many fields; a signature with so many parameters
pub record HasFields (D : Decls) (con : ℕ) (names : List ℕ) : Type 0 where
  pub made : Con
  pub is_con : slice_get D.cons con ≡ Some made
  pub many : length names ≡ length made.fields

pub record HasCount (D : Decls) (number count : ℕ) : Type 0 where
  pub sig : Sig
  pub declared : slice_get D.sigs number ≡ Some sig
  pub many : count ≡ sig.count

-- what a type says that its blocks adopt, and what the data type of a constructor does
abbrev pub AdoptedBy : Decls → Ty ℕ → Option ℕ → Type 0
AdoptedBy D t None = (u : ℕ) → AdoptsBy D u t → ⊥
AdoptedBy D t (Some u) = AdoptsBy D u t

abbrev pub ByDataAt : Decls → ℕ → Option ℕ → Type 0
ByDataAt D con None = (u : ℕ) → ByData D con u → ⊥
ByDataAt D con (Some u) = ByData D con u

-- the name is one of these
abbrev pub among : List ℕ → ℕ → Bool
among names n = list_any (λ m. m == n) names

-- the name is known: one of these, or made and below the next one
abbrev pub known : List ℕ → ℕ → ℕ → Bool
known names next n = among names n || (nat_le 256 n && nat_lt n next)
