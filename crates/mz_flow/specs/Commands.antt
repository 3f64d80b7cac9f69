-- What a plain command or a call does to a state: one case for each kind of command, and for each case a record of its
-- conditions. Permissions that are added stand at the end, in the order in which they are named. Of equal copies of a
-- permission any may go; the calls take the first.
use Rattle.std.specs.Prelude.{◌≡◌, ◌⊎◌, ◌<◌, ℕ, List, [], ◌∷◌, ◌++◌, length, Option, Some, None, slice_get, slice_set}
use Rattle.mz_tree.specs.Plain.{Atom, Int_type, Unknown_type, Function_type, Block_type, Has_atom, Same_atom}
use Rattle.mz_tree.specs.Code.{Op, Int_op, Unit_op, Fun_op, Copy_op, Arith_op, New_op, Read_op, Write_op, Retag_op, Call_op, Print_op}
use Rattle.mz_tree.specs.Programs.{Con}
use Rattle.mz_decl.specs.Declarations.{Decls}
use Rattle.mz_modes.specs.Affine.{IsMutableCon}
use Rattle.mz_decl.specs.Signatures.{needed, at_args, given}
use Rattle.mz_modes.specs.Affine.{AffineAtom}
use Rattle.mz_modes.specs.Calling.{IsCallee, GivesBack}
use Rattle.mz_perm.specs.Lists.{In, Which, TakesBy}
use Rattle.mz_perm.specs.Using.{UsesUpAllBy}

-- the permission is added, and all that was held stays
abbrev pub Adds : Atom ℕ → List (Atom ℕ) → List (Atom ℕ) → Type 0
Adds a R T = T ≡ R ++ a ∷ []

-- one copy of a permission goes, whichever, another comes for it, and the command's name gets `()`
pub record Replaces (which : Which) (a b : Atom ℕ) (R : List (Atom ℕ)) (c : ℕ) (T : List (Atom ℕ)) : Type 0 where
  pub rest : List (Atom ℕ)
  pub taken : TakesBy which a R rest
  pub new : T ≡ (rest ++ b ∷ []) ++ Has_atom c Unknown_type ∷ []

-- a function: the name gets the type of its signature
pub record NamesFunction (D : Decls) (R : List (Atom ℕ)) (c function : ℕ) (T : List (Atom ℕ)) : Type 0 where
  pub sig : ℕ
  pub declared : slice_get D.fun_sigs function ≡ Some sig
  pub new : Adds (Has_atom c (Function_type sig)) R T

-- arithmetic: both names are held as integers, and so is the result
pub record Computes (R : List (Atom ℕ)) (c y z : ℕ) (T : List (Atom ℕ)) : Type 0 where
  pub left : In (Has_atom y Int_type) R
  pub right : In (Has_atom z Int_type) R
  pub new : Adds (Has_atom c Int_type) R T

-- a print: what is printed is held as an integer
pub record Prints (R : List (Atom ℕ)) (c y : ℕ) (T : List (Atom ℕ)) : Type 0 where
  pub held : In (Has_atom y Int_type) R
  pub new : Adds (Has_atom c Unknown_type) R T

-- a field is read: the permission for the block is held and stays, and the command's name equals the field's
pub record Reads (R : List (Atom ℕ)) (c y con field : ℕ) (a : Atom ℕ) (T : List (Atom ℕ)) : Type 0 where
  pub fields : List ℕ
  pub adopts : Option ℕ
  pub block : a ≡ Has_atom y (Block_type con fields adopts)
  pub held : In a R
  pub name : ℕ
  pub at_field : slice_get fields field ≡ Some name
  pub new : Adds (Same_atom c name) R T

-- a field is written: the block is mutable, and the permission for it gets the name z in that field
pub record Writes (which : Which) (D : Decls) (R : List (Atom ℕ)) (c y con field z : ℕ) (a : Atom ℕ) (T : List (Atom ℕ)) : Type 0 where
  pub fields : List ℕ
  pub adopts : Option ℕ
  pub block : a ≡ Has_atom y (Block_type con fields adopts)
  pub mutable : IsMutableCon D con
  pub within : field < length fields
  pub changed : Replaces which a (Has_atom y (Block_type con (slice_set fields field z) adopts)) R c T

-- where a block gets another constructor, its `adopts` stays if the new one is mutable, and goes if it isn't
abbrev pub LeavesAdopts : Decls → ℕ → Option ℕ → Option ℕ → Type 0
LeavesAdopts D new before after = (IsMutableCon D new × (after ≡ before)) ⊎ ((IsMutableCon D new → ⊥) × (after ≡ None))

-- a constructor is changed for a declared one: the block is mutable, and its fields keep their names by position. Where
-- the new constructor is immutable the block is frozen
pub record Retags (which : Which) (D : Decls) (R : List (Atom ℕ)) (c y old new : ℕ) (a : Atom ℕ) (T : List (Atom ℕ)) : Type 0 where
  pub fields : List ℕ
  pub adopts : Option ℕ
  pub block : a ≡ Has_atom y (Block_type old fields adopts)
  pub mutable : IsMutableCon D old
  pub con : Con
  pub declared : slice_get D.cons new ≡ Some con
  pub left : Option ℕ
  pub adopts_left : LeavesAdopts D new adopts left
  pub changed : Replaces which a (Has_atom y (Block_type new fields left)) R c T

-- a call: each need is used up in order, and what the call gives is added
pub record Calls (which : Which) (D : Decls) (R : List (Atom ℕ)) (c g : ℕ) (ys : List ℕ) (a : Atom ℕ) (T : List (Atom ℕ)) : Type 0 where
  pub callee : IsCallee D R g (length ys) a
  pub rest : List (Atom ℕ)
  pub used : UsesUpAllBy which (AffineAtom D) (at_args ys (needed callee.sig.needs)) R rest
  pub back : List (Atom ℕ)
  pub gives_back : GivesBack D callee.sig.needs back
  pub new : T ≡ rest ++ given ys c back callee.sig.gives

-- the rule of each kind of plain command and of a call, by whether a permission is named that it uses. Another kind has no
-- rule here
abbrev pub PlainRule : Which → Decls → List (Atom ℕ) → ℕ → Op → Option (Atom ℕ) → List (Atom ℕ) → Type 0
PlainRule which D R c (Int_op n) None T = Adds (Has_atom c Int_type) R T
PlainRule which D R c Unit_op None T = Adds (Has_atom c Unknown_type) R T
PlainRule which D R c (Fun_op function) None T = NamesFunction D R c function T
PlainRule which D R c (Copy_op y) None T = Adds (Same_atom c y) R T
PlainRule which D R c (Arith_op operator y z) None T = Computes R c y z T
PlainRule which D R c (New_op con fields) None T = Adds (Has_atom c (Block_type con fields None)) R T
PlainRule which D R c (Read_op y con field) (Some a) T = Reads R c y con field a T
PlainRule which D R c (Write_op y con field z) (Some a) T = Writes which D R c y con field z a T
PlainRule which D R c (Retag_op y old new) (Some a) T = Retags which D R c y old new a T
PlainRule which D R c (Call_op g ys) (Some a) T = Calls which D R c g ys a T
PlainRule which D R c (Print_op y) None T = Prints R c y T
PlainRule which D R c op uses T = ⊥
