-- Commands that go on in one of several bodies: which of the bodies a script walks, and the state in which each begins.
use Rattle.std.specs.Prelude.{◌≡◌, ◌==◌, if◌then◌else◌, ℕ, false, List, [], ◌∷◌, map, Option, Some, None, slice_get}
use Rattle.mz_tree.specs.Plain.{Ty, Atom, Int_type, Named_type, Block_type, Has_atom, Same_atom}
use Rattle.mz_tree.specs.Code.{Op, Command, Case, Body, If_op, Match_op, case_list, to_of, op_of, con_of, body_of}
use Rattle.mz_tree.specs.Programs.{Con}
use Rattle.mz_decl.specs.Declarations.{Decls}
use Rattle.mz_modes.specs.Opening.{Opens}
use Rattle.mz_perm.specs.Lists.{In, Which}
use Rattle.mz_perm.specs.Occurrence.{occurs}

-- the cases of a constructor
abbrev pub cases_at : ℕ → List Case → List Case
cases_at con [] = []
cases_at con (c ∷ cases) = if con_of c == con then c ∷ cases_at con cases else cases_at con cases

-- those of the constructor that is known, where the permission that is used tells it
abbrev pub known_cases : Option (Atom ℕ) → List Case → List Case
known_cases (Some (Has_atom x (Block_type con fields adopts))) cases = cases_at con cases
known_cases _ cases = []

-- the cases that are walked: the known one, if there is one, and else all
abbrev pub walked_cases : List Case → List Case → List Case
walked_cases cases [] = cases
walked_cases cases (c ∷ known) = c ∷ known

-- the bodies that are walked
abbrev pub walked_bodies : Op → Option (Atom ℕ) → List Body
walked_bodies (If_op test on_true on_false giving) uses = on_true ∷ on_false ∷ []
walked_bodies (Match_op block data_type cases giving) uses = map body_of (walked_cases (case_list cases) (known_cases uses (case_list cases)))
walked_bodies _ uses = []

-- a test: the name is held as an integer, no name is made, and all that is known stays
pub record StartsTest (R : List (Atom ℕ)) (y fresh : ℕ) (S : List (Atom ℕ)) : Type 0 where
  pub held : In (Has_atom y Int_type) R
  pub no_name : fresh ≡ 0
  pub same : S ≡ R

-- the permission that is used knows the constructor: it is of the data type and has one case; no name is made, and all that
-- is known stays
pub record StartsKnown (D : Decls) (R : List (Atom ℕ)) (d con : ℕ) (a : Atom ℕ) (cases : List Case) (fresh : ℕ) (S : List (Atom ℕ)) : Type 0 where
  pub held : In a R
  pub made : Con
  pub is_con : slice_get D.cons con ≡ Some made
  pub of_type : made.variety ≡ d
  pub known : Case
  pub one : cases_at con cases ≡ known ∷ []
  pub no_name : fresh ≡ 0
  pub same : S ≡ R

-- the data type alone is known: case k opens the block at its constructor
pub record StartsOpened (which : Which) (D : Decls) (R : List (Atom ℕ)) (y d other : ℕ) (cases : List Case) (k fresh : ℕ) (S : List (Atom ℕ)) : Type 0 where
  pub same_type : other ≡ d
  pub case : Case
  pub is_case : slice_get cases k ≡ Some case
  pub opens : Opens which D R y d (con_of case) fresh S

-- by the type of what is matched
abbrev pub StartsAt : Which → Decls → List (Atom ℕ) → ℕ → ℕ → Atom ℕ → Ty ℕ → List Case → ℕ → ℕ → List (Atom ℕ) → Type 0
StartsAt which D R y d a (Block_type con fields adopts) cases k fresh S = StartsKnown D R d con a cases fresh S
StartsAt which D R y d a (Named_type other) cases k fresh S = StartsOpened which D R y d other cases k fresh S
StartsAt which D R y d a _ cases k fresh S = ⊥

-- the permission is for the name that is matched
abbrev pub StartsMatch : Which → Decls → List (Atom ℕ) → ℕ → ℕ → Atom ℕ → List Case → ℕ → ℕ → List (Atom ℕ) → Type 0
StartsMatch which D R y d (Has_atom x t) cases k fresh S = (x ≡ y) × StartsAt which D R y d (Has_atom x t) t cases k fresh S
StartsMatch which D R y d (Same_atom x z) cases k fresh S = ⊥

-- the state in which branch k starts, by the operation and by whether a permission is named that it uses. A command of
-- another kind has no branch
abbrev pub StartsBy : Which → Decls → List (Atom ℕ) → Op → Option (Atom ℕ) → ℕ → ℕ → List (Atom ℕ) → Type 0
StartsBy which D R (If_op y on_true on_false giving) None k fresh S = StartsTest R y fresh S
StartsBy which D R (Match_op y d cases giving) (Some a) k fresh S = StartsMatch which D R y d a (case_list cases) k fresh S
StartsBy which D R op uses k fresh S = ⊥

-- branch k of a command begins with this body in this state; the command's own name is new
pub record Begins (which : Which) (D : Decls) (R : List (Atom ℕ)) (command : Command) (uses : Option (Atom ℕ)) (k fresh : ℕ) (body : Body) (S : List (Atom ℕ)) : Type 0 where
  pub new : occurs (to_of command) R ≡ false
  pub walked : slice_get (walked_bodies (op_of command) uses) k ≡ Some body
  pub starts : StartsBy which D R (op_of command) uses k fresh S
