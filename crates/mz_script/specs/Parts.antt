-- What the parts of a derivation add to its text.
use Rattle.std.specs.Prelude.{ℕ, List, [], ◌∷◌, ◌++◌, flat_map}
use Rattle.mz_tree.specs.Programs.{Program}
use Rattle.mz_deriv.specs.Scripts.{Item, See_item, Do_item}
use Rattle.mz_script.specs.Pieces.{Piece, Step_line, Do_line, case_pieces, join_pieces}
use Rattle.mz_script.specs.Lines.{line_of}

-- the pieces of one item: a view step, or the command's line with its cases and the join
abbrev pub item_pieces : Item → List Piece
item_pieces (See_item s) = Step_line s ∷ []
item_pieces (Do_item uses cases join) = Do_line uses ∷ (case_pieces cases ++ join_pieces cases join)

-- the lines of pieces, one after another
abbrev pub lines_text : Program → List Piece → List ℕ
lines_text p pieces = flat_map (line_of p) pieces
