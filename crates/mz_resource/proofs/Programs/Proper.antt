-- What the proofs ask of declarations and bodies: permissions speak of the names that they may speak of, what adopts and what is
-- adopted is mutable, and commands use and bind names as they must.
use Rattle.std.specs.Prelude.{◌≡◌, ℕ, ◌+◌, ◌<◌, ◌≤◌, true, List, [], ◌∷◌, length, Some, slice_get}
use Rattle.mz_tree.specs.Plain.{Atom}
use Rattle.mz_tree.specs.Programs.{Con, Field, Sig, Program, Need, Fun}
use Rattle.mz_decl.specs.Declarations.{Decls, decls_of, clause_of, only_of}
use Rattle.mz_perm.specs.Occurrence.{in_atom}
use Rattle.mz_modes.specs.Affine.{IsMutable}
use Rattle.mz_resource.specs.Names.{CoreBody}

-- a permission speaks only of the names below this one
abbrev pub IsClosed : ℕ → Atom ℕ → Type 0
IsClosed count a = (x : ℕ) → in_atom x a ≡ true → x < count

abbrev pub AreClosed : ℕ → List (Atom ℕ) → Type 0
AreClosed count [] = Unit {0}
AreClosed count (a ∷ p) = IsClosed count a × AreClosed count p

abbrev pub AreFieldsClosed : ℕ → List Field → Type 0
AreFieldsClosed count [] = Unit {0}
AreFieldsClosed count (f ∷ fields) = IsClosed count f.content × AreFieldsClosed count fields

abbrev pub AreNeedsClosed : ℕ → List Need → Type 0
AreNeedsClosed count [] = Unit {0}
AreNeedsClosed count (n ∷ needs) = IsClosed count n.atom × AreNeedsClosed count needs

-- a signature speaks of its parameters, and of its result in what it gives
pub record IsSigClosed (s : Sig) : Type 0 where
  pub few : s.count ≤ 32
  pub needs : AreNeedsClosed s.count s.needs
  pub gives : AreClosed (s.count + 1) s.gives

-- what is asked of declarations
pub record ProperDecls (D : Decls) : Type 0 where
  pub fields : (k : ℕ) (c : Con) → slice_get D.cons k ≡ Some c → AreFieldsClosed (length c.fields) c.fields
  pub sigs : (k : ℕ) (s : Sig) → slice_get D.sigs k ≡ Some s → IsSigClosed s
  -- where a data type has one constructor, each constructor of it is that one
  pub only : (d con k : ℕ) (c : Con) → only_of D d ≡ Some con → slice_get D.cons k ≡ Some c → c.variety ≡ d → k ≡ con
  -- what adopts is mutable, and so is what is adopted
  pub adopts : (d u : ℕ) → clause_of D d ≡ Some u → IsMutable D d × IsMutable D u

-- what is asked of bodies: the names of each function
abbrev pub ProperBodies : Program → Type 0
ProperBodies p = (k : ℕ) (f : Fun) (sig : Sig) → slice_get p.funs k ≡ Some f → slice_get p.sigs f.sig ≡ Some sig → CoreBody (decls_of p) sig.count f.body
