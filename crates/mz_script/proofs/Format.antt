-- The format by lines: what a list of lines spells, for a program. T is a line, and `piece` what a line says.
use Rattle.std.proofs.Common.{ℕ, Bool, false, List, [], ◌∷◌, Option}
use Rattle.mz_grammar.specs.Relations.{OneToken, Nothing, Then, Cases as Chosen, Image, Many}
use Rattle.mz_tree.specs.Plain.{Atom}
use Rattle.mz_tree.specs.Code.{Op, Commands, Cases, Body, The_command, No_commands, More_commands, The_case, No_cases, More_cases, The_body, If_op, Match_op}
use Rattle.mz_tree.specs.Programs.{Fun}
use Rattle.mz_view.specs.Steps.{Step}
use Rattle.mz_deriv.specs.Spelled.{has_number}
use Rattle.mz_deriv.specs.Scripts.{Item, ScriptCase, ScriptCases, Do_item, Script_case, No_script_cases, More_script_cases, items_of}
use Rattle.mz_script.specs.Pieces.{Piece}
use Rattle.mz_script.specs.Places.{heads, begins_fun, steps, does, cases, joins, ends, step_in, uses_in, number_in, atoms_in, Walked, walks, walked_by, seen, body_commands, line}

module _ {T : Type 0} (piece : T → Piece) where
  abbrev pub StepText : List T → Step → Type 0
  StepText = Image (λ t. step_in (piece t)) (OneToken (line piece steps))

  abbrev pub StepsText : List T → List Step → Type 0
  StepsText = Many StepText

  abbrev pub JoinLineText : List T → List (Atom ℕ) → Type 0
  JoinLineText = Image (λ t. atoms_in (piece t)) (OneToken (line piece joins))

  abbrev pub DoText : List T → Option (Atom ℕ) → Type 0
  DoText = Image (λ t. uses_in (piece t)) (OneToken (line piece does))

  abbrev pub NumberText : Bool → List T → ℕ → Type 0
  NumberText numbered = Image (λ t. number_in (piece t)) (OneToken (line piece (cases numbered)))

  -- after the last case the join; where there is no case there is none
  abbrev pub JoinText : ScriptCases → List T → List (Atom ℕ) → Type 0
  JoinText No_script_cases = Nothing []
  JoinText (More_script_cases c rest) = JoinLineText

  unfoldable mutual
    -- for each command its steps, its `do` and what that brings; then the steps of the end, and `end`
    pub CommandsText : Commands → List T → List Item → Type 0
    CommandsText No_commands = Then StepsText (λ ss. Image (λ t. seen ss []) (OneToken (line piece ends)))
    CommandsText (More_commands (The_command to op place) rest) =
        Then StepsText (λ ss. Then DoText (λ uses. Then (OpText op uses) (λ b.
        Image (λ items. seen ss (Do_item uses b.0 b.1 ∷ items)) (CommandsText rest))))

    -- what stands behind the `do` of a command: nothing, or its cases and the join
    pub OpText : Op → Option (Atom ℕ) → List T → ScriptCases × List (Atom ℕ) → Type 0
    OpText (If_op test on_true on_false giving) uses =
        Then (CaseText false on_true) (λ yes. Then (CaseText false on_false) (λ no.
        Image (λ join. (More_script_cases yes (More_script_cases no No_script_cases), join)) JoinLineText))
    OpText (Match_op block data_type all giving) uses = Then (CasesText (has_number (Match_op block data_type all giving) uses) (walked_by uses all) all) (λ cs. Image (λ join. (cs, join)) (JoinText cs))
    OpText _ uses = Nothing (No_script_cases, [])

    -- the number and the body of a branch
    pub CaseText : Bool → Body → List T → ScriptCase → Type 0
    CaseText numbered (The_body commands value place) =
        Then (NumberText numbered) (λ number. Image (λ items. Script_case number (items_of items)) (CommandsText commands))

    -- the cases that have a script, in order
    pub CasesText : Bool → Walked → Cases → List T → ScriptCases → Type 0
    CasesText numbered walked No_cases = Nothing No_script_cases
    CasesText numbered walked (More_cases (The_case con body) rest) =
        Chosen (walks walked con) (Then (CaseText numbered body) (λ c. Image (λ cs. More_script_cases c cs) (CasesText numbered walked rest))) (CasesText numbered walked rest)

  -- for each function its line and its body
  unfoldable pub FunsText : List Fun → List T → List (List Item) → Type 0
  FunsText [] = Nothing []
  FunsText (f ∷ rest) =
      Then (OneToken (line piece (begins_fun f.name))) (λ t. Then (CommandsText (body_commands f.body)) (λ items. Image (λ scripts. items ∷ scripts) (FunsText rest)))

  -- the first line, and the functions
  abbrev pub ScriptText : List Fun → List T → List (List Item) → Type 0
  ScriptText functions = Then (OneToken (line piece heads)) (λ t. FunsText functions)
