-- How each line of a script is spelled, for a program, and what it may name.
use Rattle.std.specs.Prelude.{◌≡◌, ℕ, true, List, [], ◌∷◌, ◌++◌, Option, Some, None, IfSome, codes, decimal}
use Rattle.std.specs.List.{list_all}
use Rattle.mz_tree.specs.Plain.{Atom, atoms_of}
use Rattle.mz_tree.specs.Programs.{Program}
use Rattle.mz_tree.specs.Bytes.{is_name_byte}
use Rattle.mz_tree.specs.Scoped.{Each}
use Rattle.mz_view.specs.Steps.{Step, Drop_step, Copy_step, Unfold_step, Fold_step, Rename_step, Equal_step, Dynamic_step, Clause_step, Unknown_step, Meet_step, Field_step, Lock_step}
use Rattle.mz_deriv.specs.Spelled.{IsNumber, IsWritable, StepSpelled}
use Rattle.mz_script.specs.Pieces.{Piece, Head_line, Fun_line, Step_line, Do_line, Case_line, Join_line, End_line, No_line}
use Rattle.mz_script.specs.Words.{name_text, data_text, atom_text, atoms_text}

module _ (p : Program) where
  -- a view step: its word, and what the rule is used on
  abbrev pub step_text : Step → List ℕ
  step_text (Drop_step a) = codes "drop " ++ atom_text p a
  step_text (Copy_step a) = codes "copy " ++ atom_text p a
  step_text (Unfold_step x d n) = codes "unfold " ++ (name_text x ++ (codes " " ++ (data_text p d ++ (codes " " ++ decimal n))))
  step_text (Fold_step a) = codes "fold " ++ atom_text p a
  step_text (Rename_step a z) = codes "rename " ++ (atom_text p a ++ (codes " to " ++ name_text z))
  step_text (Equal_step x y) = codes "equal " ++ (name_text x ++ (codes " " ++ name_text y))
  step_text (Dynamic_step x) = codes "dynamic " ++ name_text x
  step_text (Clause_step a u) = codes "clause " ++ (atom_text p a ++ (codes " " ++ data_text p u))
  step_text (Unknown_step x) = codes "unknown " ++ name_text x
  step_text (Meet_step a b) = codes "meet " ++ (atom_text p a ++ (codes " " ++ atom_text p b))
  step_text (Field_step a i z) = codes "infield " ++ (atom_text p a ++ (codes " " ++ (decimal i ++ (codes " to " ++ name_text z))))
  step_text (Lock_step a k z) = codes "inlock " ++ (atom_text p a ++ (codes " " ++ (decimal k ++ (codes " to " ++ name_text z))))

  -- a do, with the permission that the command uses
  abbrev pub do_text : Option (Atom ℕ) → List ℕ
  do_text None = codes "do"
  do_text (Some a) = codes "do " ++ atom_text p a

  -- a join, with its permissions
  abbrev pub join_text : List (Atom ℕ) → List ℕ
  join_text [] = codes "join"
  join_text (a ∷ atoms) = codes "join " ++ atoms_text p (atoms_of (a ∷ atoms))

  -- what stands in the line of a piece
  abbrev pub piece_text : Piece → List ℕ
  piece_text Head_line = codes "%derivation 1"
  piece_text (Fun_line name) = codes "fun " ++ name
  piece_text (Step_line s) = step_text s
  piece_text (Do_line uses) = do_text uses
  piece_text (Case_line n) = codes "case " ++ decimal n
  piece_text (Join_line atoms) = join_text atoms
  piece_text End_line = codes "end"
  piece_text No_line = []

  -- the line, with its end
  abbrev pub line_of : Piece → List ℕ
  line_of piece = piece_text piece ++ 10 ∷ []

  -- a piece that has a line: what it names is declared, and its numbers have 32 bits
  abbrev pub PieceSpelled : Piece → Type 0
  PieceSpelled Head_line = Unit {0}
  PieceSpelled (Fun_line name) = list_all is_name_byte name ≡ true
  PieceSpelled (Step_line s) = StepSpelled p s
  PieceSpelled (Do_line uses) = IfSome uses (IsWritable p)
  PieceSpelled (Case_line n) = IsNumber n
  PieceSpelled (Join_line atoms) = Each (λ _ a. IsWritable p a) atoms
  PieceSpelled End_line = Unit {0}
  PieceSpelled No_line = ⊥
