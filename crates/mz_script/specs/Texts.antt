-- The script of a derivation as a text, and which lines are the first that no script has.
use Rattle.std.specs.Prelude.{◌≡◌, ℕ, ◌+◌, List, map, length, Some, slice_get, flat_map}
use Rattle.mz_tree.specs.Programs.{Fun, Program}
use Rattle.mz_tree.specs.Code.{commands_in}
use Rattle.mz_grammar.specs.Brackets.{no_brackets}
use Rattle.mz_grammar.specs.Wholes.{IsFirstWrong}
use Rattle.mz_deriv.specs.Scripts.{Item}
use Rattle.mz_deriv.specs.Spelled.{Spelled}
use Rattle.mz_script.specs.Pieces.{script_pieces}
use Rattle.mz_script.specs.Lines.{line_of}
use Rattle.mz_script.specs.Cutting.{lines}

module _ (p : Program) where
  -- a script for each function, in the form of a script for its body
  pub record AreSpelled (scripts : List (List Item)) : Type 0 where
    pub one_each : length scripts ≡ length p.funs
    pub each : (k : ℕ) (f : Fun) (script : List Item) → slice_get p.funs k ≡ Some f → slice_get scripts k ≡ Some script → Spelled p (commands_in f.body) script

  -- the lines of the script of a derivation
  abbrev pub script_lines : List (List Item) → List (List ℕ)
  script_lines scripts = map (line_of p) (script_pieces p.funs scripts)

  -- and its text
  abbrev pub script_text : List (List Item) → List ℕ
  script_text scripts = flat_map (line_of p) (script_pieces p.funs scripts)

  -- these lines are the script of the derivation
  pub record IsScript (ts : List (List ℕ)) (scripts : List (List Item)) : Type 0 where
    pub spelled : AreSpelled scripts
    pub same : ts ≡ script_lines scripts

  -- these bytes are the text of the derivation
  pub record IsScriptText (bytes : List ℕ) (scripts : List (List Item)) : Type 0 where
    pub spelled : AreSpelled scripts
    pub same : bytes ≡ script_text scripts

  -- line n, counted from 1, is the first that isn't lawful in its place: the lines before it begin a script, and no script
  -- goes on with it. Where the lines end too early it is the one behind them
  pub record IsWrongLine (bytes : List ℕ) (n : ℕ) : Type 0 where
    pub left : ℕ
    pub first : IsFirstWrong no_brackets 0 IsScript (lines bytes) left
    pub number : n + left ≡ length (lines bytes) + 1
