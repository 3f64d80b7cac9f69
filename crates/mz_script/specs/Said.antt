-- A line that was read, as the piece that it says; and what the functions that cut lines answer.
use Rattle.std.specs.Prelude.{◌≡◌, ◌<◌, ℕ, List, [], ◌∷◌, length, Option, Some, None, option_map}
use Rattle.mz_tree.specs.View.{plain_atom, plain_atoms}
use Rattle.mz_view.specs.Steps.{plain_step}
use Rattle.mz_script.specs.Cutting.{lines}
use Rattle.mz_script.specs.Pieces.{Piece, Head_line, Fun_line, Step_line, Do_line, Case_line, Join_line, End_line, No_line}
use Rattle.mz_script.specs.declared.read.line.Line.{Line}
use Rattle.mz_script.specs.declared.read.line.Line.TheVariants.{Head, Fun, Step, Do, Case, Join, End, Other}

abbrev pub plain_line : Line → Piece
plain_line Head = Head_line
plain_line (Fun name) = Fun_line name
plain_line (Step step) = Step_line (plain_step step)
plain_line (Do uses) = Do_line (option_map plain_atom uses)
plain_line (Case n) = Case_line n
plain_line (Join atoms) = Join_line (plain_atoms atoms)
plain_line End = End_line
plain_line Other = No_line

-- the first line and the bytes behind it, if there is one
abbrev pub Cuts : Option (List ℕ × List ℕ) → List ℕ → Type 0
Cuts None bytes = bytes ≡ []
Cuts (Some (line, rest)) bytes = (lines bytes ≡ line ∷ lines rest) × (length rest < length bytes)

-- what the first line says and the bytes behind it, if there is one
abbrev pub Tells : (List ℕ → Piece) → Option (Piece × List ℕ) → List ℕ → Type 0
Tells piece None bytes = bytes ≡ []
Tells piece (Some (p, rest)) bytes = (line : List ℕ) × (lines bytes ≡ line ∷ lines rest) × (piece line ≡ p) × (length rest < length bytes)
