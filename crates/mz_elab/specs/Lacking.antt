-- The first goal that the guided rules can't meet: its place, and the permission that is wanting.
use Rattle.std.specs.Prelude.{◌≡◌, ◌⊎◌, ◌<◌, ℕ, ◌+◌, List, [], ◌∷◌, ◌++◌, length, Some, slice_get}
use Rattle.mz_tree.specs.Plain.{Ty, Atom, Int_type, Unknown_type, Dynamic_type, Locked_type, Named_type, Has_atom}
use Rattle.mz_tree.specs.Code.{Op, Command, Arith_op, Read_op, Write_op, Retag_op, If_op, Match_op, Call_op, Give_op, Take_op, New_lock_op, Acquire_op, Release_op, Spawn_op, Print_op, to_of, op_of, place_of, commands_in, result_of, brace_of}
use Rattle.mz_tree.specs.Programs.{Con, Sig, Fun, Program}
use Rattle.mz_tree.specs.declared.types.Place.{Place}
use Rattle.mz_decl.specs.Declarations.{Decls, decls_of, only_of}
use Rattle.mz_decl.specs.Signatures.{parameters, needed, at_args, owed}
use Rattle.mz_modes.specs.Affine.{IsMutableCon}
use Rattle.mz_index.specs.Finding.{NoneFits, InClass}
use Rattle.mz_goal.specs.Needs.{Need, Unmet, UnmetBeside, FirstUnmet}
use Rattle.mz_elab.specs.Acting.{BlockOf, FindsFunction, SignedWith, AdoptsSome, FindsAdopter, GuardsSome, FindsLock, Acts}
use Rattle.mz_elab.specs.Opening.{Opening, BlockIn, OpensIn, giving_of}
use Rattle.mz_elab.specs.Joins.{End, for_value, AllNeed, Joins}
use Rattle.mz_elab.specs.Guided.{Guided, GuidedAll, GuidedFun}

-- ---- what a command lacks itself, before its branches

-- neither a block of the constructor nor a permission of its data type that could be opened is there: x at that data type
pub record NoBlock (D : Decls) (R : List (Atom ℕ)) (x con : ℕ) (a : Atom ℕ) : Type 0 where
  pub made : Con
  pub is_con : slice_get D.cons con ≡ Some made
  pub no_block : NoneFits (InClass R x (BlockOf D con)) R
  pub no_data : only_of D made.variety ≡ Some con → NoneFits (InClass R x (λ t. t ≡ Named_type made.variety)) R
  pub is : a ≡ Has_atom x (Named_type made.variety)

-- a block of the constructor can't be changed: x at its data type
pub record IsFrozen (D : Decls) (x con : ℕ) (a : Atom ℕ) : Type 0 where
  pub immutable : IsMutableCon D con → ⊥
  pub made : Con
  pub is_con : slice_get D.cons con ≡ Some made
  pub is : a ≡ Has_atom x (Named_type made.variety)

abbrev pub CantChange : Decls → List (Atom ℕ) → ℕ → ℕ → Atom ℕ → Type 0
CantChange D R x con a = NoBlock D R x con a ⊎ IsFrozen D x con a

-- nothing of the kind stands in the class: y at `unknown`
pub record NoneOf (R : List (Atom ℕ)) (y : ℕ) (P : Ty ℕ → Type 0) (a : Atom ℕ) : Type 0 where
  pub none : NoneFits (InClass R y P) R
  pub is : a ≡ Has_atom y Unknown_type

-- the callee's signature is found, and one of its needs isn't met
pub record NeedsOf (D : Decls) (R : List (Atom ℕ)) (callee : ℕ) (args : List ℕ) (a : Atom ℕ) : Type 0 where
  pub sig : Sig
  pub found : FindsFunction D R callee (length args) sig
  pub unmet : FirstUnmet D R (at_args args (needed sig.needs)) a

-- the lock is found, and what it guards, or that it is held, isn't met
pub record CantRelease (D : Decls) (R : List (Atom ℕ)) (l : ℕ) (a : Atom ℕ) : Type 0 where
  pub guarded : List (Atom ℕ)
  pub found : FindsLock R l guarded
  pub unmet : FirstUnmet D R (guarded ++ Has_atom l Locked_type ∷ []) a

-- the adopter is found, and the block can't be given to it
pub record CantGive (D : Decls) (R : List (Atom ℕ)) (x y : ℕ) (a : Atom ℕ) : Type 0 where
  pub u : ℕ
  pub place : ℕ
  pub adopter : Atom ℕ
  pub state : List (Atom ℕ)
  pub found : FindsAdopter D R y u place adopter state
  pub unmet : UnmetBeside D state place adopter (Has_atom x (Named_type u))
  pub is : a ≡ Has_atom x (Named_type u)

-- or it may not be asked for the block
pub record CantTake (D : Decls) (R : List (Atom ℕ)) (x y : ℕ) (a : Atom ℕ) : Type 0 where
  pub u : ℕ
  pub place : ℕ
  pub adopter : Atom ℕ
  pub state : List (Atom ℕ)
  pub found : FindsAdopter D R y u place adopter state
  pub unmet : Unmet D state (Has_atom x Dynamic_type)
  pub is : a ≡ Has_atom x Dynamic_type

-- nothing at the data type that is matched
pub record NoMatch (D : Decls) (R : List (Atom ℕ)) (y d : ℕ) (a : Atom ℕ) : Type 0 where
  pub no_block : NoneFits (InClass R y (BlockIn D d)) R
  pub no_data : NoneFits (InClass R y (λ t. t ≡ Named_type d)) R
  pub is : a ≡ Has_atom y (Named_type d)

abbrev pub LacksOp : Decls → List (Atom ℕ) → Op → Atom ℕ → Type 0
LacksOp D R (Arith_op o y z) a = FirstUnmet D R (Has_atom y Int_type ∷ Has_atom z Int_type ∷ []) a
LacksOp D R (Read_op x con field) a = NoBlock D R x con a
LacksOp D R (Write_op x con field z) a = CantChange D R x con a
LacksOp D R (Retag_op x old new) a = CantChange D R x old a
LacksOp D R (If_op y on_true on_false giving) a = FirstUnmet D R (Has_atom y Int_type ∷ []) a
LacksOp D R (Match_op y d cases giving) a = NoMatch D R y d a
LacksOp D R (Call_op g ys) a = NoneOf R g (SignedWith D (length ys)) a ⊎ NeedsOf D R g ys a
LacksOp D R (Spawn_op g y) a = NoneOf R g (SignedWith D 1) a ⊎ NeedsOf D R g (y ∷ []) a
LacksOp D R (Give_op x y) a = NoneOf R y (AdoptsSome D) a ⊎ CantGive D R x y a
LacksOp D R (Take_op x y) a = NoneOf R y (AdoptsSome D) a ⊎ CantTake D R x y a
LacksOp D R (New_lock_op p) a = FirstUnmet D R p a
LacksOp D R (Acquire_op l) a = NoneOf R l GuardsSome a
LacksOp D R (Release_op l) a = NoneOf R l GuardsSome a ⊎ CantRelease D R l a
LacksOp D R (Print_op y) a = FirstUnmet D R (Has_atom y Int_type ∷ []) a
LacksOp D R op a = ⊥

-- ---- what the ends of branches lack

-- the first branch that doesn't meet the goal: at its closing brace, the goal with its value for the command's name
abbrev pub FirstLacks : Decls → ℕ → Atom ℕ → List End → Place → Atom ℕ → Type 0
FirstLacks D c g [] place a = ⊥
FirstLacks D c g (e ∷ ends) place a = (Unmet D e.state (for_value c e g) × (place ≡ e.brace) × (a ≡ for_value c e g))
    ⊎ ((T : List (Atom ℕ)) × Need D e.state (for_value c e g) T × FirstLacks D c g ends place a)

-- the first of what is given that some branch lacks
abbrev pub GivesLack : Decls → ℕ → List (Atom ℕ) → List End → Place → Atom ℕ → Type 0
GivesLack D c [] ends place a = ⊥
GivesLack D c (g ∷ giving) ends place a = FirstLacks D c g ends place a ⊎ ((S : List End) × AllNeed D c g ends S × GivesLack D c giving S place a)

-- ---- bodies, functions and programs

mutual
  -- the commands lack it
  pub data Lacks (D : Decls) : List ℕ → List (Atom ℕ) → ℕ → List Command → Place → Atom ℕ → Type 0 where
    -- the first of them does itself
    Lacks_here : (names : List ℕ) (R : List (Atom ℕ)) (n : ℕ) (c : Command) (rest : List Command) (a : Atom ℕ) →
        LacksOp D R (op_of c) a → Lacks D names R n (c ∷ rest) (place_of c) a
    -- one after it does
    Lacks_later : (names : List ℕ) (R : List (Atom ℕ)) (n : ℕ) (c : Command) (rest : List Command) (S : List (Atom ℕ)) (k : ℕ) (place : Place) (a : Atom ℕ) →
        Acts D R n (to_of c) (op_of c) S k → Lacks D (to_of c ∷ names) S k rest place a → Lacks D names R n (c ∷ rest) place a
    -- one of its branches does
    Lacks_inside : (names : List ℕ) (R : List (Atom ℕ)) (n : ℕ) (c : Command) (rest : List Command) (branches : List Opening) (place : Place) (a : Atom ℕ) →
        OpensIn D R (op_of c) branches → LacksIn D names n branches place a → Lacks D names R n (c ∷ rest) place a
    -- the end of a branch lacks what is given
    Lacks_given : (names : List ℕ) (R : List (Atom ℕ)) (n : ℕ) (c : Command) (rest : List Command) (branches : List Opening) (ends : List End) (k : ℕ) (place : Place) (a : Atom ℕ) →
        OpensIn D R (op_of c) branches → GuidedAll D names n branches ends k → GivesLack D (to_of c) (giving_of (op_of c)) ends place a → Lacks D names R n (c ∷ rest) place a
    -- the branches join, and what follows lacks it
    Lacks_after : (names : List ℕ) (R : List (Atom ℕ)) (n : ℕ) (c : Command) (rest : List Command) (branches : List Opening) (ends : List End) (k : ℕ) (J : List (Atom ℕ)) (place : Place) (a : Atom ℕ) →
        OpensIn D R (op_of c) branches → GuidedAll D names n branches ends k → Joins D names R (to_of c) (giving_of (op_of c)) ends J →
        Lacks D (to_of c ∷ names) J k rest place a → Lacks D names R n (c ∷ rest) place a

  -- one of the branches does, and those before it don't
  pub data LacksIn (D : Decls) : List ℕ → ℕ → List Opening → Place → Atom ℕ → Type 0 where
    Lacks_first : (names : List ℕ) (n : ℕ) (b : Opening) (branches : List Opening) (place : Place) (a : Atom ℕ) →
        Lacks D names (b.begins n) (n + b.takes) (commands_in b.body) place a → LacksIn D names n (b ∷ branches) place a
    Lacks_next : (names : List ℕ) (n : ℕ) (b : Opening) (branches : List Opening) (T : List (Atom ℕ)) (k : ℕ) (place : Place) (a : Atom ℕ) →
        Guided D names (b.begins n) (n + b.takes) (commands_in b.body) T k → LacksIn D names k branches place a → LacksIn D names n (b ∷ branches) place a

-- a function does: in its body, or at its end
pub data LacksFun (D : Decls) (f : Fun) : Place → Atom ℕ → Type 0 where
  Lacks_body : (sig : Sig) (place : Place) (a : Atom ℕ) → slice_get D.sigs f.sig ≡ Some sig →
      Lacks D (parameters sig) (needed sig.needs) 256 (commands_in f.body) place a → LacksFun D f place a
  Lacks_end : (sig : Sig) (last : List (Atom ℕ)) (next : ℕ) (a : Atom ℕ) → slice_get D.sigs f.sig ≡ Some sig →
      Guided D (parameters sig) (needed sig.needs) 256 (commands_in f.body) last next → FirstUnmet D last (owed sig (result_of f.body)) a → LacksFun D f (brace_of f.body) a

-- and a program: its first function that does
pub record LacksProgram (p : Program) (place : Place) (a : Atom ℕ) : Type 0 where
  pub k : ℕ
  pub fun : Fun
  pub found : slice_get p.funs k ≡ Some fun
  pub before : (j : ℕ) (f : Fun) → j < k → slice_get p.funs j ≡ Some f → GuidedFun (decls_of p) f
  pub lacks : LacksFun (decls_of p) fun place a
