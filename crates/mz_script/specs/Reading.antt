-- The reader of a script by lines, on lists. T is a line, and `piece` what a line says; each place asks for a kind of line,
-- and which depends on the program's command at hand and on what its `do` uses.
use Rattle.std.specs.Prelude.{ℕ, Bool, false, List, [], ◌∷◌, ◌++◌, Option, if◌then◌else◌}
use Rattle.mz_grammar.specs.Reading.{Read, bind, done, token_at, many}
use Rattle.mz_tree.specs.Plain.{Atom}
use Rattle.mz_tree.specs.Code.{Op, Commands, Cases, Body, The_command, No_commands, More_commands, The_case, No_cases, More_cases, The_body, If_op, Match_op}
use Rattle.mz_tree.specs.Programs.{Fun}
use Rattle.mz_view.specs.Steps.{Step}
use Rattle.mz_deriv.specs.Spelled.{has_number}
use Rattle.mz_deriv.specs.Scripts.{Item, ScriptCase, ScriptCases, Do_item, Script_case, No_script_cases, More_script_cases, items_of}
use Rattle.mz_script.specs.Pieces.{Piece}
use Rattle.mz_script.specs.Places.{heads, begins_fun, steps, does, cases, joins, ends, step_in, uses_in, number_in, atoms_in, Walked, walks, walked_by, numbered_by, seen, body_commands, line}

module _ {T : Type 0} (piece : T → Piece) where
  abbrev pub step_at : List T → Read T Step
  step_at = bind (token_at (line piece steps)) (λ t. done (step_in (piece t)))

  abbrev pub steps_at : List T → Read T (List Step)
  steps_at = many (line piece steps) step_at

  unfoldable pub do_at : List T → Read T (Option (Atom ℕ))
  do_at = bind (token_at (line piece does)) (λ t. done (uses_in (piece t)))

  unfoldable pub case_at : Bool → List T → Read T ℕ
  case_at numbered = bind (token_at (line piece (cases numbered))) (λ t. done (number_in (piece t)))

  unfoldable pub join_at : List T → Read T (List (Atom ℕ))
  join_at = bind (token_at (line piece joins)) (λ t. done (atoms_in (piece t)))

  abbrev pub join_by : ScriptCases → List T → Read T (List (Atom ℕ))
  join_by No_script_cases = done []
  join_by (More_script_cases c rest) = join_at

  unfoldable mutual
    pub commands_by : Commands → List T → Read T (List Item)
    commands_by No_commands = bind steps_at (λ ss. bind (token_at (line piece ends)) (λ t. done (seen ss [])))
    commands_by (More_commands (The_command to op place) rest) =
        bind steps_at (λ ss. bind do_at (λ uses. bind (op_by op uses) (λ b.
        bind (commands_by rest) (λ items. done (seen ss (Do_item uses b.0 b.1 ∷ items))))))

    pub op_by : Op → Option (Atom ℕ) → List T → Read T (ScriptCases × List (Atom ℕ))
    op_by (If_op test on_true on_false giving) uses =
        bind (case_by false on_true) (λ yes. bind (case_by false on_false) (λ no.
        bind join_at (λ join. done (More_script_cases yes (More_script_cases no No_script_cases), join))))
    op_by (Match_op block data_type all giving) uses =
        bind (cases_by (has_number (Match_op block data_type all giving) uses) (walked_by uses all) all) (λ cs. bind (join_by cs) (λ join. done (cs, join)))
    op_by _ uses = done (No_script_cases, [])

    pub case_by : Bool → Body → List T → Read T ScriptCase
    case_by numbered (The_body commands value place) =
        bind (case_at numbered) (λ number. bind (commands_by commands) (λ items. done (Script_case number (items_of items))))

    -- the cases that have a script, in order
    pub cases_by : Bool → Walked → Cases → List T → Read T ScriptCases
    cases_by numbered walked No_cases = done No_script_cases
    cases_by numbered walked (More_cases (The_case con body) rest) =
        λ ts. if walks walked con then bind (case_by numbered body) (λ c. bind (cases_by numbered walked rest) (λ cs. done (More_script_cases c cs))) ts else cases_by numbered walked rest ts

  unfoldable pub funs_by : List Fun → List T → Read T (List (List Item))
  funs_by [] = done []
  funs_by (f ∷ rest) =
      bind (token_at (line piece (begins_fun f.name))) (λ t. bind (commands_by (body_commands f.body)) (λ items. bind (funs_by rest) (λ scripts. done (items ∷ scripts))))

  abbrev pub script_by : List Fun → List T → Read T (List (List Item))
  script_by functions = bind (token_at (line piece heads)) (λ t. funs_by functions)

  -- ---- the parts that functions of the code read

  -- the steps before what comes next
  unfoldable pub seen_at : List T → Read T (List Item)
  seen_at = bind steps_at (λ ss. done (seen ss []))

  unfoldable pub end_at : List T → Read T (Unit {0})
  end_at = bind (token_at (line piece ends)) (λ t. done tt)

  -- what stands for one command
  unfoldable pub point_by : Op → List T → Read T (List Item)
  point_by op = bind seen_at (λ front. bind do_at (λ uses. bind (op_by op uses) (λ b. done (front ++ Do_item uses b.0 b.1 ∷ []))))

  -- what a match brings
  unfoldable pub match_by : Option (Atom ℕ) → Cases → List T → Read T (ScriptCases × List (Atom ℕ))
  match_by uses all = bind (cases_by (numbered_by uses) (walked_by uses all) all) (λ cs. bind (join_by cs) (λ join. done (cs, join)))

  -- the first line, the line of a function, and the script of a function
  unfoldable pub head_at : List T → Read T (Unit {0})
  head_at = bind (token_at (line piece heads)) (λ t. done tt)

  unfoldable pub fun_at : List ℕ → List T → Read T (Unit {0})
  fun_at name = bind (token_at (line piece (begins_fun name))) (λ t. done tt)

  unfoldable pub fun_by : Fun → List T → Read T (List Item)
  fun_by f = bind (fun_at f.name) (λ t. commands_by (body_commands f.body))
