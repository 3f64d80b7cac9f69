-- Where the guided rules lead through a body, a function and a program.
--
-- The state is a list in which the order counts, since rules look for the first permission that fits. Fresh names are numbers from
-- 256 on; each opened block takes the next ones, and no number is taken twice in a function.
use Rattle.std.specs.Prelude.{◌≡◌, ℕ, ◌+◌, List, [], ◌∷◌, Some, slice_get}
use Rattle.mz_tree.specs.Plain.{Atom}
use Rattle.mz_tree.specs.Code.{Command, to_of, op_of, commands_in, result_of}
use Rattle.mz_tree.specs.Programs.{Sig, Fun, Program}
use Rattle.mz_decl.specs.Declarations.{Decls, decls_of}
use Rattle.mz_decl.specs.Signatures.{parameters, needed, owed}
use Rattle.mz_modes.specs.Adopted.{Declared}
use Rattle.mz_goal.specs.Needs.{Needs}
use Rattle.mz_elab.specs.Acting.{Acts}
use Rattle.mz_elab.specs.Opening.{Opening, OpensIn, giving_of}
use Rattle.mz_elab.specs.Joins.{End, end_of, Joins}

mutual
  -- from a state and a next fresh name through the commands to those after them; `names` are bound before them, the last one
  -- first
  pub data Guided (D : Decls) : List ℕ → List (Atom ℕ) → ℕ → List Command → List (Atom ℕ) → ℕ → Type 0 where
    Guided_ends : (names : List ℕ) (R : List (Atom ℕ)) (n : ℕ) → Guided D names R n [] R n
    -- a command without branches
    Guided_acts : (names : List ℕ) (R : List (Atom ℕ)) (n : ℕ) (c : Command) (rest : List Command) (S : List (Atom ℕ)) (k : ℕ) (T : List (Atom ℕ)) (m : ℕ) →
        Acts D R n (to_of c) (op_of c) S k → Guided D (to_of c ∷ names) S k rest T m → Guided D names R n (c ∷ rest) T m
    -- a command that goes on in branches: each of them, their join, and what follows from there
    Guided_branches : (names : List ℕ) (R : List (Atom ℕ)) (n : ℕ) (c : Command) (rest : List Command) (branches : List Opening) (ends : List End) (k : ℕ) (J T : List (Atom ℕ)) (m : ℕ) →
        OpensIn D R (op_of c) branches → GuidedAll D names n branches ends k → Joins D names R (to_of c) (giving_of (op_of c)) ends J →
        Guided D (to_of c ∷ names) J k rest T m → Guided D names R n (c ∷ rest) T m

  -- through each of the branches, one after the other, to their ends
  pub data GuidedAll (D : Decls) : List ℕ → ℕ → List Opening → List End → ℕ → Type 0 where
    Guided_none : (names : List ℕ) (n : ℕ) → GuidedAll D names n [] [] n
    Guided_one : (names : List ℕ) (n : ℕ) (b : Opening) (branches : List Opening) (T : List (Atom ℕ)) (k : ℕ) (ends : List End) (m : ℕ) →
        Guided D names (b.begins n) (n + b.takes) (commands_in b.body) T k → GuidedAll D names k branches ends m → GuidedAll D names n (b ∷ branches) (end_of b.body T ∷ ends) m

-- a function: its body, and then the goals of its end
pub record GuidedFun (D : Decls) (f : Fun) : Type 0 where
  pub sig : Sig
  pub signed : slice_get D.sigs f.sig ≡ Some sig
  pub last : List (Atom ℕ)
  pub next : ℕ
  pub body : Guided D (parameters sig) (needed sig.needs) 256 (commands_in f.body) last next
  pub left : List (Atom ℕ)
  pub ends : Needs D last (owed sig (result_of f.body)) left

-- a program whose declarations and modes are lawful: each of its functions
pub record GuidedProgram (p : Program) : Type 0 where
  pub declared : Declared p
  pub funs : (k : ℕ) (f : Fun) → slice_get p.funs k ≡ Some f → GuidedFun (decls_of p) f
