-- What the commands of locks and threads do to a state. Permissions that are added stand at the end, in the order in which
-- they are named. Of equal copies of a permission any may go; the calls take the first.
use Rattle.std.specs.Prelude.{◌≡◌, ℕ, List, [], ◌∷◌, ◌++◌, Option, Some, None}
use Rattle.mz_tree.specs.Plain.{Ty, Atom, Unknown_type, Locked_type, Lock_type, Has_atom, Same_atom, list_of, atoms_of}
use Rattle.mz_tree.specs.Code.{Op, New_lock_op, Acquire_op, Release_op, Spawn_op}
use Rattle.mz_decl.specs.Declarations.{Decls}
use Rattle.mz_decl.specs.Signatures.{needed, at_args}
use Rattle.mz_modes.specs.Affine.{AffineAtom}
use Rattle.mz_modes.specs.Calling.{IsCallee}
use Rattle.mz_perm.specs.Lists.{In, Which}
use Rattle.mz_perm.specs.Using.{UsesUpAllBy}

-- a new lock: what it guards is used up
pub record Locks (which : Which) (D : Decls) (R : List (Atom ℕ)) (c : ℕ) (guarded T : List (Atom ℕ)) : Type 0 where
  pub rest : List (Atom ℕ)
  pub used : UsesUpAllBy which (AffineAtom D) guarded R rest
  pub new : T ≡ rest ++ Has_atom c (Lock_type (atoms_of guarded)) ∷ []

-- a lock of the type guards these
abbrev pub TypeGuards : Ty ℕ → List (Atom ℕ) → Type 0
TypeGuards (Lock_type p) guarded = guarded ≡ list_of p
TypeGuards _ guarded = ⊥

-- the permission says that l is a lock that guards these
abbrev pub IsLock : ℕ → Atom ℕ → List (Atom ℕ) → Type 0
IsLock l (Has_atom x t) guarded = (x ≡ l) × TypeGuards t guarded
IsLock l (Same_atom x y) guarded = ⊥

-- a lock is taken: what it guards is added, and that it is held
pub record Acquires (R : List (Atom ℕ)) (c l : ℕ) (a : Atom ℕ) (T : List (Atom ℕ)) : Type 0 where
  pub guarded : List (Atom ℕ)
  pub lock : IsLock l a guarded
  pub held : In a R
  pub new : T ≡ (R ++ (guarded ++ Has_atom l Locked_type ∷ [])) ++ Has_atom c Unknown_type ∷ []

-- a lock is freed: what it guards is used up, and that it is held
pub record Releases (which : Which) (D : Decls) (R : List (Atom ℕ)) (c l : ℕ) (a : Atom ℕ) (T : List (Atom ℕ)) : Type 0 where
  pub guarded : List (Atom ℕ)
  pub lock : IsLock l a guarded
  pub held : In a R
  pub rest : List (Atom ℕ)
  pub used : UsesUpAllBy which (AffineAtom D) (guarded ++ Has_atom l Locked_type ∷ []) R rest
  pub new : T ≡ rest ++ Has_atom c Unknown_type ∷ []

-- a new thread: each need of its function is used up, and nothing comes back
pub record Spawns (which : Which) (D : Decls) (R : List (Atom ℕ)) (c g y : ℕ) (a : Atom ℕ) (T : List (Atom ℕ)) : Type 0 where
  pub callee : IsCallee D R g 1 a
  pub rest : List (Atom ℕ)
  pub used : UsesUpAllBy which (AffineAtom D) (at_args (y ∷ []) (needed callee.sig.needs)) R rest
  pub new : T ≡ rest ++ Has_atom c Unknown_type ∷ []

-- the rule of a new lock, which uses no permission by name. Another command has no rule here
abbrev pub NewLockRule : Which → Decls → List (Atom ℕ) → ℕ → Op → Option (Atom ℕ) → List (Atom ℕ) → Type 0
NewLockRule which D R c (New_lock_op guarded) None T = Locks which D R c guarded T
NewLockRule which D R c op uses T = ⊥

-- the rule of an acquire, by whether a permission is named that it uses
abbrev pub AcquireRule : List (Atom ℕ) → ℕ → Op → Option (Atom ℕ) → List (Atom ℕ) → Type 0
AcquireRule R c (Acquire_op l) (Some a) T = Acquires R c l a T
AcquireRule R c op uses T = ⊥

-- the same of a release
abbrev pub ReleaseRule : Which → Decls → List (Atom ℕ) → ℕ → Op → Option (Atom ℕ) → List (Atom ℕ) → Type 0
ReleaseRule which D R c (Release_op l) (Some a) T = Releases which D R c l a T
ReleaseRule which D R c op uses T = ⊥

-- the same of a spawn
abbrev pub SpawnRule : Which → Decls → List (Atom ℕ) → ℕ → Op → Option (Atom ℕ) → List (Atom ℕ) → Type 0
SpawnRule which D R c (Spawn_op g y) (Some a) T = Spawns which D R c g y a T
SpawnRule which D R c op uses T = ⊥

-- the rule of each of them. Another command has no rule here
abbrev pub LockRule : Which → Decls → List (Atom ℕ) → ℕ → Op → Option (Atom ℕ) → List (Atom ℕ) → Type 0
LockRule which D R c (New_lock_op guarded) uses T = NewLockRule which D R c (New_lock_op guarded) uses T
LockRule which D R c (Acquire_op l) uses T = AcquireRule R c (Acquire_op l) uses T
LockRule which D R c (Release_op l) uses T = ReleaseRule which D R c (Release_op l) uses T
LockRule which D R c (Spawn_op g y) uses T = SpawnRule which D R c (Spawn_op g y) uses T
LockRule which D R c op uses T = ⊥
