-- What is known where the walk of a body stands.
use Rattle.std.specs.Prelude.{◌≡◌, ◌⊎◌, ◌<◌, ◌≤◌, ◌+◌, true, ℕ, List, length, Some, slice_get}
use Rattle.mz_tree.specs.Plain.{Atom}
use Rattle.mz_tree.specs.Programs.{Con, Field, Need, Sig}
use Rattle.mz_decl.specs.Declarations.{Decls, clause_of}
use Rattle.mz_modes.specs.Affine.{IsMutable, AffineAtom}
use Rattle.mz_perm.specs.Lists.{In}
use Rattle.mz_perm.specs.Occurrence.{in_atom}

-- names that are known: those that are bound, and those that were made, which lie below the next one
abbrev pub IsKnown : List ℕ → ℕ → ℕ → Type 0
IsKnown names n m = In m names ⊎ ((256 ≤ m) × (m < n))

-- this holds of each name of a permission, of a state
abbrev pub OfAtom : (ℕ → Type 0) → Atom ℕ → Type 0
OfAtom Q a = (m : ℕ) → in_atom m a ≡ true → Q m

abbrev pub OfState : (ℕ → Type 0) → List (Atom ℕ) → Type 0
OfState Q R = (a : Atom ℕ) → In a R → OfAtom Q a

-- declarations of a program that was read and whose modes are lawful
pub record Lawful (D : Decls) : Type 0 where
  -- each permission is affine or it isn't
  pub affine : (a : Atom ℕ) → AffineAtom D a ⊎ (AffineAtom D a → ⊥)
  -- the content of a field speaks of the fields of its constructor
  pub closed : (con : ℕ) (made : Con) (f : Field) (i : ℕ) → slice_get D.cons con ≡ Some made → In f made.fields → in_atom i f.content ≡ true → i < length made.fields
  -- a need speaks of parameters, and what is given of the result too
  pub needs : (s : ℕ) (sig : Sig) (n : Need) (i : ℕ) → slice_get D.sigs s ≡ Some sig → In n sig.needs → in_atom i n.atom ≡ true → i < sig.count
  pub gives : (s : ℕ) (sig : Sig) (a : Atom ℕ) (i : ℕ) → slice_get D.sigs s ≡ Some sig → In a sig.gives → in_atom i a ≡ true → i < sig.count + 1
  -- what a data type adopts is mutable
  pub adopts : (d u : ℕ) → clause_of D d ≡ Some u → IsMutable D u

-- core names are bound, the names of the state are known, and the next one to be made is no core name
pub record Standing (D : Decls) (names : List ℕ) (n : ℕ) (R : List (Atom ℕ)) : Type 0 where
  pub lawful : Lawful D
  pub core : (m : ℕ) → In m names → m < 256
  pub next : 256 ≤ n
  pub known : OfState (IsKnown names n) R
