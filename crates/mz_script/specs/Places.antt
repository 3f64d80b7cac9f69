-- What may stand at a place of a script, what the line that stands there says, and which cases of a match stand there.
use Rattle.std.specs.Prelude.{◌==◌, ℕ, Bool, true, false, List, [], ◌∷◌, Option, Some, None, if◌then◌else◌}
use Rattle.mz_tree.specs.Plain.{Atom, Has_atom, Block_type}
use Rattle.mz_tree.specs.Code.{Commands, Case, Cases, Body, The_body, The_case, No_cases, More_cases, case_list}
use Rattle.mz_view.specs.Steps.{Step, Unknown_step}
use Rattle.mz_flow.specs.Branches.{known_cases}
use Rattle.mz_deriv.specs.Scripts.{Item, See_item}
use Rattle.mz_script.specs.Pieces.{Piece, Head_line, Fun_line, Step_line, Do_line, Case_line, Join_line, End_line}

-- the same names, byte by byte
abbrev pub same_name : List ℕ → List ℕ → Bool
same_name [] [] = true
same_name [] (c ∷ others) = false
same_name (b ∷ name) [] = false
same_name (b ∷ name) (c ∷ others) = both (b == c) (same_name name others)
  where
    both : Bool → Bool → Bool
    both true b = b
    both false b = false

-- ---- what may stand at a place

abbrev pub heads : Piece → Bool
heads Head_line = true
heads _ = false

-- the line of the function of that name
abbrev pub begins_fun : List ℕ → Piece → Bool
begins_fun name (Fun_line other) = same_name name other
begins_fun name _ = false

abbrev pub steps : Piece → Bool
steps (Step_line s) = true
steps _ = false

abbrev pub does : Piece → Bool
does (Do_line uses) = true
does _ = false

-- a case that has a number of its own has any, and every other has 0
abbrev pub cases : Bool → Piece → Bool
cases true (Case_line n) = true
cases false (Case_line n) = n == 0
cases _ _ = false

abbrev pub joins : Piece → Bool
joins (Join_line atoms) = true
joins _ = false

abbrev pub ends : Piece → Bool
ends End_line = true
ends _ = false

-- ---- what the line at a place says

abbrev pub step_in : Piece → Step
step_in (Step_line s) = s
step_in _ = Unknown_step 0

abbrev pub uses_in : Piece → Option (Atom ℕ)
uses_in (Do_line uses) = uses
uses_in _ = None

abbrev pub number_in : Piece → ℕ
number_in (Case_line n) = n
number_in _ = 0

abbrev pub atoms_in : Piece → List (Atom ℕ)
atoms_in (Join_line atoms) = atoms
atoms_in _ = []

-- what a line says where such a line is wanted
abbrev pub as_do : Piece → Option (Option (Atom ℕ))
as_do (Do_line uses) = Some uses
as_do _ = None

abbrev pub as_step : Piece → Option Step
as_step (Step_line s) = Some s
as_step _ = None

abbrev pub as_case : Piece → Option ℕ
as_case (Case_line n) = Some n
as_case _ = None

abbrev pub as_join : Piece → Option (List (Atom ℕ))
as_join (Join_line atoms) = Some atoms
as_join _ = None

-- ---- the cases of a match that have a script

pub data Walked : Type 0 where
  -- all of them
  All_cases : Walked
  -- those of the constructor that is known
  Of_con : (con : ℕ) → Walked

abbrev pub walks : Walked → ℕ → Bool
walks All_cases con = true
walks (Of_con known) con = con == known

-- a constructor is known where one of the cases is its case
abbrev pub known_if : ℕ → List Case → Walked
known_if con [] = All_cases
known_if con (c ∷ known) = Of_con con

-- by what the `do` uses
abbrev pub walked_by : Option (Atom ℕ) → Cases → Walked
walked_by (Some (Has_atom x (Block_type con fields adopts))) all = known_if con (known_cases (Some (Has_atom x (Block_type con fields adopts))) (case_list all))
walked_by _ all = All_cases

-- the constructor whose cases alone have a script, if there is one
abbrev pub walked_of : Option ℕ → Walked
walked_of None = All_cases
walked_of (Some con) = Of_con con

-- whether a match has a case of the constructor
abbrev pub has_case : ℕ → Cases → Bool
has_case con No_cases = false
has_case con (More_cases (The_case other body) rest) = if other == con then true else has_case con rest

-- whether the cases of a match have numbers of their own, by what its `do` uses
abbrev pub numbered_by : Option (Atom ℕ) → Bool
numbered_by (Some (Has_atom x (Block_type con fields adopts))) = false
numbered_by uses = true

-- ---- items and bodies

-- steps before what comes next
abbrev pub seen : List Step → List Item → List Item
seen [] items = items
seen (s ∷ steps) items = See_item s ∷ seen steps items

-- the commands of a body
abbrev pub body_commands : Body → Commands
body_commands (The_body all value place) = all

-- a line of a kind
abbrev pub line : {T : Type 0} → (T → Piece) → (Piece → Bool) → T → Bool
line piece kind t = kind (piece t)
