-- The pieces of a script: what one of its lines says, apart from how it is spelled.
use Rattle.std.specs.Prelude.{ℕ, List, [], ◌++◌, ◌∷◌, Option}
use Rattle.mz_tree.specs.Plain.{Atom}
use Rattle.mz_view.specs.Steps.{Step}
use Rattle.mz_tree.specs.Programs.{Fun}
use Rattle.mz_deriv.specs.Scripts.{Item, ItemChain, ScriptCases, See_item, Do_item, No_items, More_items, Script_case, No_script_cases, More_script_cases, items_of}

pub data Piece : Type 0 where
  -- the first line
  Head_line : Piece
  -- a function begins
  Fun_line : (name : List ℕ) → Piece
  -- a view step
  Step_line : (step : Step) → Piece
  -- the next command, with the permission that it uses, if it names one
  Do_line : (uses : Option (Atom ℕ)) → Piece
  -- a case begins
  Case_line : (number : ℕ) → Piece
  -- the permissions in which the cases join
  Join_line : (atoms : List (Atom ℕ)) → Piece
  -- a body ends
  End_line : Piece
  -- no line of the format, in any place
  No_line : Piece

-- after the last case stands the join; where there is no case there is none
abbrev pub join_pieces : ScriptCases → List (Atom ℕ) → List Piece
join_pieces No_script_cases join = []
join_pieces (More_script_cases c rest) join = Join_line join ∷ []

abbrev mutual
  -- the items of a body one after another, and its end
  pub chain_pieces : ItemChain → List Piece
  chain_pieces No_items = End_line ∷ []
  chain_pieces (More_items (See_item s) rest) = Step_line s ∷ chain_pieces rest
  chain_pieces (More_items (Do_item uses cases join) rest) = Do_line uses ∷ (case_pieces cases ++ (join_pieces cases join ++ chain_pieces rest))

  -- each case with its number and its body
  pub case_pieces : ScriptCases → List Piece
  case_pieces No_script_cases = []
  case_pieces (More_script_cases (Script_case fresh items) rest) = Case_line fresh ∷ (chain_pieces items ++ case_pieces rest)

-- the pieces of a body's script
abbrev pub body_pieces : List Item → List Piece
body_pieces items = chain_pieces (items_of items)

-- for each function its line and its body
abbrev pub fun_pieces : List Fun → List (List Item) → List Piece
fun_pieces [] scripts = []
fun_pieces (f ∷ funs) [] = []
fun_pieces (f ∷ funs) (script ∷ scripts) = Fun_line f.name ∷ (body_pieces script ++ fun_pieces funs scripts)

-- the first line, and then the functions
abbrev pub script_pieces : List Fun → List (List Item) → List Piece
script_pieces funs scripts = Head_line ∷ fun_pieces funs scripts
