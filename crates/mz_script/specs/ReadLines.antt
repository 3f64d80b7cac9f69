-- Lines as functions that read what one says, for a program.
use Rattle.std.specs.Prelude.{ℕ, List, [], ◌∷◌, Some, None, Ok, Err, codes, if◌then◌else◌}
use Rattle.std.specs.Str.{bytes_eq}
use Rattle.mz_grammar.specs.Reading.{Read, Wrong}
use Rattle.mz_tree.specs.Plain.{Atom}
use Rattle.mz_tree.specs.Programs.{Program}
use Rattle.mz_view.specs.Steps.{Step, Drop_step, Copy_step, Unfold_step, Fold_step, Rename_step, Equal_step, Dynamic_step, Clause_step, Unknown_step, Meet_step, Field_step, Lock_step}
use Rattle.mz_script.specs.Pieces.{Piece, Head_line, Fun_line, Step_line, Do_line, Case_line, Join_line, End_line, No_line}
use Rattle.mz_script.specs.Fronts.{choose_text, behind, both, image, word_at, number_at, name_at}
use Rattle.mz_script.specs.ReadWords.{data_at, atom_at, atoms_at}

-- two names
unfoldable pub equal_at : List ℕ → Read ℕ Step
equal_at = image (λ (x : ℕ × ℕ). Equal_step x.0 x.1) (both name_at (behind (codes " ") name_at))

-- a number, and the name that stands for the one there
unfoldable pub place_at : List ℕ → Read ℕ (ℕ × ℕ)
place_at = both number_at (behind (codes " to ") name_at)

module _ (p : Program) where
  unfoldable pub unfold_at : List ℕ → Read ℕ Step
  unfold_at = image (λ (x : ℕ × (ℕ × ℕ)). Unfold_step x.0 x.1.0 x.1.1) (both name_at (behind (codes " ") (both (data_at p) (behind (codes " ") number_at))))

  unfoldable pub rename_at : List ℕ → Read ℕ Step
  rename_at = image (λ (x : Atom ℕ × ℕ). Rename_step x.0 x.1) (both (atom_at p) (behind (codes " to ") name_at))

  unfoldable pub clause_at : List ℕ → Read ℕ Step
  clause_at = image (λ (x : Atom ℕ × ℕ). Clause_step x.0 x.1) (both (atom_at p) (behind (codes " ") (data_at p)))

  unfoldable pub meet_at : List ℕ → Read ℕ Step
  meet_at = image (λ (x : Atom ℕ × Atom ℕ). Meet_step x.0 x.1) (both (atom_at p) (behind (codes " ") (atom_at p)))

  unfoldable pub field_at : List ℕ → Read ℕ Step
  field_at = image (λ (x : Atom ℕ × (ℕ × ℕ)). Field_step x.0 x.1.0 x.1.1) (both (atom_at p) (behind (codes " ") place_at))

  unfoldable pub lock_at : List ℕ → Read ℕ Step
  lock_at = image (λ (x : Atom ℕ × (ℕ × ℕ)). Lock_step x.0 x.1.0 x.1.1) (both (atom_at p) (behind (codes " ") place_at))

  -- steps by their words
  unfoldable pub last_steps_at : List ℕ → Read ℕ Step
  last_steps_at = choose_text (codes "meet ") meet_at (choose_text (codes "infield ") field_at (choose_text (codes "inlock ") lock_at (λ bytes. Err (Wrong bytes))))

  unfoldable pub more_steps_at : List ℕ → Read ℕ Step
  more_steps_at =
      choose_text (codes "equal ") equal_at (choose_text (codes "dynamic ") (image Dynamic_step name_at)
      (choose_text (codes "clause ") clause_at (choose_text (codes "unknown ") (image Unknown_step name_at) last_steps_at)))

  unfoldable pub step_at : List ℕ → Read ℕ Step
  step_at =
      choose_text (codes "drop ") (image Drop_step (atom_at p)) (choose_text (codes "copy ") (image Copy_step (atom_at p))
      (choose_text (codes "unfold ") unfold_at (choose_text (codes "fold ") (image Fold_step (atom_at p))
      (choose_text (codes "rename ") rename_at more_steps_at))))

  -- lines by their words
  unfoldable pub body_line_at : List ℕ → Read ℕ Piece
  body_line_at =
      choose_text (codes "join ") (image Join_line (atoms_at p)) (choose_text (codes "join") (λ bytes. Ok (Join_line [], bytes))
      (choose_text (codes "end") (λ bytes. Ok (End_line, bytes)) (image Step_line step_at)))

  unfoldable pub piece_at : List ℕ → Read ℕ Piece
  piece_at =
      choose_text (codes "do ") (image (λ a. Do_line (Some a)) (atom_at p)) (choose_text (codes "do") (λ bytes. Ok (Do_line None, bytes))
      (choose_text (codes "case ") (image Case_line number_at) body_line_at))

  unfoldable pub any_line_at : List ℕ → Read ℕ Piece
  any_line_at =
      choose_text (codes "%derivation 1") (λ bytes. Ok (Head_line, bytes)) (choose_text (codes "fun ") (image Fun_line word_at) piece_at)

  -- a line is read where nothing but its end is left
  abbrev pub ended : Read ℕ Piece → Piece
  ended (Ok x) = if bytes_eq x.1 (10 ∷ []) then x.0 else No_line
  ended (Err e) = No_line

  unfoldable pub piece_of : List ℕ → Piece
  piece_of line = ended (any_line_at line)
