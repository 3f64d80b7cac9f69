-- What the guided rules do for each command without branches: the permission that they look for, their goals, and the
-- state that they leave.
--
-- `n` is the next fresh name before the command, and `m` the one after it. A permission may be found under another name of
-- the class; it keeps its subject and its place.
use Rattle.std.specs.Prelude.{◌≡◌, ◌⊎◌, ℕ, suc, ◌+◌, List, [], ◌∷◌, ◌++◌, length, take, drop, Option, Some, None, slice_get, slice_set}
use Rattle.mz_tree.specs.Plain.{Ty, Atom, Int_type, Unknown_type, Dynamic_type, Locked_type, Named_type, Function_type, Block_type, Lock_type, Has_atom, Same_atom, atoms_of}
use Rattle.mz_tree.specs.Code.{Op, Int_op, Unit_op, Fun_op, Copy_op, Arith_op, New_op, Read_op, Write_op, Retag_op, Call_op, Give_op, Take_op, New_lock_op, Acquire_op, Release_op, Spawn_op, Print_op}
use Rattle.mz_tree.specs.Programs.{Con, Sig}
use Rattle.mz_decl.specs.Declarations.{Decls, clause_of, only_of}
use Rattle.mz_decl.specs.Contents.{opened, names_from}
use Rattle.mz_decl.specs.Signatures.{needed, at_args, given}
use Rattle.mz_modes.specs.Affine.{IsMutableCon, Affine, ExclusiveTy}
use Rattle.mz_modes.specs.Calling.{GivesBack}
use Rattle.mz_flow.specs.Commands.{NamesFunction, LeavesAdopts}
use Rattle.mz_lockrule.specs.Locking.{TypeGuards}
use Rattle.mz_index.specs.Finding.{IsFirst, NoneFits, InClass}
use Rattle.mz_goal.specs.Needs.{Need, NeedBeside, Needs}

-- ---- what is looked for

-- a block of this constructor, with a name for each field
abbrev pub BlockOf : Decls → ℕ → Ty ℕ → Type 0
BlockOf D con (Block_type k ys clause) = (k ≡ con) × (made : Con) × (slice_get D.cons con ≡ Some made) × (length ys ≡ length made.fields)
BlockOf D con _ = ⊥

-- what is known of an opened block: in the place of the permission where that goes, at the end where it stays; the block's
-- own permission stands at `place` then
abbrev pub OpensAt : Decls → List (Atom ℕ) → ℕ → ℕ → List (Atom ℕ) → List (Atom ℕ) → ℕ → Type 0
OpensAt D R p d new S place = (Affine D d × (S ≡ take p R ++ new ++ drop (suc p) R) × (place ≡ p))
    ⊎ ((Affine D d → ⊥) × (S ≡ R ++ new) × (place ≡ length R))

-- a block of this constructor stands in the class
pub record StandsOpen (D : Decls) (R : List (Atom ℕ)) (x con n : ℕ) (S : List (Atom ℕ)) (m place y : ℕ) (ys : List ℕ) (clause : Option ℕ) : Type 0 where
  pub first : IsFirst (InClass R x (BlockOf D con)) R place (Has_atom y (Block_type con ys clause))
  pub state : S ≡ R
  pub numbers : m ≡ n

-- or else the first of its data type, whose only constructor it is, is opened
pub record IsOpened (D : Decls) (R : List (Atom ℕ)) (x con n : ℕ) (S : List (Atom ℕ)) (m place y : ℕ) (ys : List ℕ) (clause : Option ℕ) : Type 0 where
  pub alone : NoneFits (InClass R x (BlockOf D con)) R
  pub made : Con
  pub is_con : slice_get D.cons con ≡ Some made
  pub only : only_of D made.variety ≡ Some con
  pub at : ℕ
  pub first : IsFirst (InClass R x (λ t. t ≡ Named_type made.variety)) R at (Has_atom y (Named_type made.variety))
  pub names : ys ≡ names_from n (length made.fields)
  pub adopts : clause ≡ clause_of D made.variety
  pub numbers : m ≡ n + length made.fields
  pub state : OpensAt D R at made.variety (opened y con ys clause made.fields) S place

-- the block of x that a read, a write or a change of tag is of: where it stands, under the name y, and the state in which
-- it does
abbrev pub FindsBlock : Decls → List (Atom ℕ) → ℕ → ℕ → ℕ → List (Atom ℕ) → ℕ → ℕ → ℕ → List ℕ → Option ℕ → Type 0
FindsBlock D R x con n S m place y ys clause = StandsOpen D R x con n S m place y ys clause ⊎ IsOpened D R x con n S m place y ys clause

-- a type of a signature with so many parameters
pub record SignedWith (D : Decls) (count : ℕ) (t : Ty ℕ) : Type 0 where
  pub number : ℕ
  pub is : t ≡ Function_type number
  pub sig : Sig
  pub declared : slice_get D.sigs number ≡ Some sig
  pub many : count ≡ sig.count

-- the first function of the callee's class with so many parameters
pub record FindsFunction (D : Decls) (R : List (Atom ℕ)) (callee count : ℕ) (sig : Sig) : Type 0 where
  pub place : ℕ
  pub one : Atom ℕ
  pub first : IsFirst (InClass R callee (SignedWith D count)) R place one
  pub same : sig ≡ first.fits.fits.sig

-- how a type says that its blocks adopt u: of itself, or by its data type
abbrev pub ByData : Decls → ℕ → ℕ → Type 0
ByData D con u = (made : Con) × (slice_get D.cons con ≡ Some made) × (clause_of D made.variety ≡ Some u)

abbrev pub AdoptsBy : Decls → ℕ → Ty ℕ → Type 0
AdoptsBy D u (Named_type d) = clause_of D d ≡ Some u
AdoptsBy D u (Block_type con ys (Some v)) = v ≡ u
AdoptsBy D u (Block_type con ys None) = ByData D con u
AdoptsBy D u _ = ⊥

-- an exclusive type that says so
pub record Adopts (D : Decls) (u : ℕ) (t : Ty ℕ) : Type 0 where
  pub exclusive : ExclusiveTy D t
  pub clause : AdoptsBy D u t

abbrev pub AdoptsSome : Decls → Ty ℕ → Type 0
AdoptsSome D t = (u : ℕ) × Adopts D u t

-- the type with what it adopts, which a block that doesn't say it gets at once
abbrev pub with_clause : ℕ → Ty ℕ → Ty ℕ
with_clause u (Block_type con ys None) = Block_type con ys (Some u)
with_clause u t = t

-- the first adopter of y's class, which adopts u and says so in its place from then on
pub record FindsAdopter (D : Decls) (R : List (Atom ℕ)) (y u place : ℕ) (a : Atom ℕ) (S : List (Atom ℕ)) : Type 0 where
  pub found : Atom ℕ
  pub first : IsFirst (InClass R y (AdoptsSome D)) R place found
  pub clause : first.fits.fits.0 ≡ u
  pub now : a ≡ Has_atom first.fits.name (with_clause u first.fits.ty)
  pub state : S ≡ slice_set R place a

-- a type of a lock
abbrev pub GuardsSome : Ty ℕ → Type 0
GuardsSome t = (guarded : List (Atom ℕ)) × TypeGuards t guarded

-- the first lock of l's class, and what it guards
pub record FindsLock (R : List (Atom ℕ)) (l : ℕ) (guarded : List (Atom ℕ)) : Type 0 where
  pub place : ℕ
  pub one : Atom ℕ
  pub first : IsFirst (InClass R l GuardsSome) R place one
  pub guards : TypeGuards first.fits.ty guarded

-- ---- what is done

-- a field is read
pub record Reading (D : Decls) (R : List (Atom ℕ)) (n c x con field : ℕ) (T : List (Atom ℕ)) (m : ℕ) : Type 0 where
  pub place : ℕ
  pub name : ℕ
  pub names : List ℕ
  pub clause : Option ℕ
  pub state : List (Atom ℕ)
  pub found : FindsBlock D R x con n state m place name names clause
  pub value : ℕ
  pub at_field : slice_get names field ≡ Some value
  pub new : T ≡ state ++ Same_atom c value ∷ []

-- a mutable block is changed in its place
pub record Changing (D : Decls) (R : List (Atom ℕ)) (n c x con : ℕ) (becomes : List ℕ → Option ℕ → Ty ℕ → Type 0) (T : List (Atom ℕ)) (m : ℕ) : Type 0 where
  pub mutable : IsMutableCon D con
  pub place : ℕ
  pub name : ℕ
  pub names : List ℕ
  pub clause : Option ℕ
  pub state : List (Atom ℕ)
  pub found : FindsBlock D R x con n state m place name names clause
  pub ty : Ty ℕ
  pub changed : becomes names clause ty
  pub new : T ≡ slice_set state place (Has_atom name ty) ++ Has_atom c Unknown_type ∷ []

-- what a write and a change of tag make of a block
abbrev pub Written : ℕ → ℕ → ℕ → List ℕ → Option ℕ → Ty ℕ → Type 0
Written con field z ys clause t = t ≡ Block_type con (slice_set ys field z) clause

abbrev pub Retagged : Decls → ℕ → List ℕ → Option ℕ → Ty ℕ → Type 0
Retagged D new ys clause t = (left : Option ℕ) × LeavesAdopts D new clause left × (t ≡ Block_type new ys left)

-- a call
pub record Calling (D : Decls) (R : List (Atom ℕ)) (c callee : ℕ) (args : List ℕ) (T : List (Atom ℕ)) : Type 0 where
  pub sig : Sig
  pub found : FindsFunction D R callee (length args) sig
  pub left : List (Atom ℕ)
  pub needs : Needs D R (at_args args (needed sig.needs)) left
  pub back : List (Atom ℕ)
  pub gives_back : GivesBack D sig.needs back
  pub new : T ≡ left ++ given args c back sig.gives

-- a function is started
pub record Spawning (D : Decls) (R : List (Atom ℕ)) (c callee arg : ℕ) (T : List (Atom ℕ)) : Type 0 where
  pub sig : Sig
  pub found : FindsFunction D R callee 1 sig
  pub left : List (Atom ℕ)
  pub needs : Needs D R (at_args (arg ∷ []) (needed sig.needs)) left
  pub new : T ≡ left ++ Has_atom c Unknown_type ∷ []

-- goals, and then what is added
pub record Meeting (D : Decls) (R goals more T : List (Atom ℕ)) : Type 0 where
  pub left : List (Atom ℕ)
  pub needs : Needs D R goals left
  pub new : T ≡ left ++ more

-- a block is given: the adopter is set aside while the goal is met
pub record Giving (D : Decls) (R : List (Atom ℕ)) (c x y : ℕ) (T : List (Atom ℕ)) : Type 0 where
  pub u : ℕ
  pub place : ℕ
  pub adopter : Atom ℕ
  pub state : List (Atom ℕ)
  pub found : FindsAdopter D R y u place adopter state
  pub left : List (Atom ℕ)
  pub need : NeedBeside D state place adopter (Has_atom x (Named_type u)) left
  pub new : T ≡ left ++ Has_atom x Dynamic_type ∷ Has_atom c Unknown_type ∷ []

-- a block is taken: the adopter is found, and then the goal is met
pub record Taking (D : Decls) (R : List (Atom ℕ)) (c x y : ℕ) (T : List (Atom ℕ)) : Type 0 where
  pub u : ℕ
  pub place : ℕ
  pub adopter : Atom ℕ
  pub state : List (Atom ℕ)
  pub found : FindsAdopter D R y u place adopter state
  pub left : List (Atom ℕ)
  pub need : Need D state (Has_atom x Dynamic_type) left
  pub new : T ≡ left ++ Has_atom x (Named_type u) ∷ Has_atom c Unknown_type ∷ []

-- a lock is taken
pub record Acquiring (R : List (Atom ℕ)) (c l : ℕ) (T : List (Atom ℕ)) : Type 0 where
  pub guarded : List (Atom ℕ)
  pub found : FindsLock R l guarded
  pub new : T ≡ R ++ guarded ++ Has_atom l Locked_type ∷ Has_atom c Unknown_type ∷ []

-- and freed
pub record Releasing (D : Decls) (R : List (Atom ℕ)) (c l : ℕ) (T : List (Atom ℕ)) : Type 0 where
  pub guarded : List (Atom ℕ)
  pub found : FindsLock R l guarded
  pub meets : Meeting D R (guarded ++ Has_atom l Locked_type ∷ []) (Has_atom c Unknown_type ∷ []) T

-- a command without branches: the state and the next fresh name that it leaves
abbrev pub Acts : Decls → List (Atom ℕ) → ℕ → ℕ → Op → List (Atom ℕ) → ℕ → Type 0
Acts D R n c (Int_op v) T m = (T ≡ R ++ Has_atom c Int_type ∷ []) × (m ≡ n)
Acts D R n c Unit_op T m = (T ≡ R ++ Has_atom c Unknown_type ∷ []) × (m ≡ n)
Acts D R n c (Fun_op f) T m = NamesFunction D R c f T × (m ≡ n)
Acts D R n c (Copy_op y) T m = (T ≡ R ++ Same_atom c y ∷ []) × (m ≡ n)
Acts D R n c (Arith_op o y z) T m = Meeting D R (Has_atom y Int_type ∷ Has_atom z Int_type ∷ []) (Has_atom c Int_type ∷ []) T × (m ≡ n)
Acts D R n c (New_op con ys) T m = (T ≡ R ++ Has_atom c (Block_type con ys None) ∷ []) × (m ≡ n)
Acts D R n c (Read_op x con field) T m = Reading D R n c x con field T m
Acts D R n c (Write_op x con field z) T m = Changing D R n c x con (Written con field z) T m
Acts D R n c (Retag_op x old new) T m = Changing D R n c x old (Retagged D new) T m
Acts D R n c (Call_op g ys) T m = Calling D R c g ys T × (m ≡ n)
Acts D R n c (Give_op x y) T m = Giving D R c x y T × (m ≡ n)
Acts D R n c (Take_op x y) T m = Taking D R c x y T × (m ≡ n)
Acts D R n c (New_lock_op p) T m = Meeting D R p (Has_atom c (Lock_type (atoms_of p)) ∷ []) T × (m ≡ n)
Acts D R n c (Acquire_op l) T m = Acquiring R c l T × (m ≡ n)
Acts D R n c (Release_op l) T m = Releasing D R c l T × (m ≡ n)
Acts D R n c (Spawn_op g y) T m = Spawning D R c g y T × (m ≡ n)
Acts D R n c (Print_op y) T m = Meeting D R (Has_atom y Int_type ∷ []) (Has_atom c Unknown_type ∷ []) T × (m ≡ n)
Acts D R n c op T m = ⊥
