-- What the line of a piece says is that piece.
use Rattle.std.proofs.Common.{◌≡◌, ◌<◌, ◌≤◌, ◌^◌, ℕ, suc, true, List, [], ◌∷◌, ◌++◌, length, Option, Some, None, Ok, decimal, codes, refl, sym, ap, ◌∙◌, append_assoc, arith}
use Rattle.std.specs.List.{list_all}
use Rattle.mz_grammar.specs.Reading.{Read}
use Rattle.mz_tree.specs.Bytes.{is_name_byte}
use Rattle.std.specs.Str.{all_ascii_digits}
use Rattle.mz_tree.specs.Plain.{Atom, Has_atom, Same_atom, atoms_of, list_of}
use Rattle.mz_tree.specs.Programs.{Program}
use Rattle.mz_tree.specs.Scoped.{Each, FitsAtoms, depth_in}
use Rattle.mz_tree.proofs.Chains.{list_of_atoms}
use Rattle.mz_view.specs.Steps.{Step, Drop_step, Copy_step, Unfold_step, Fold_step, Rename_step, Equal_step, Dynamic_step, Clause_step, Unknown_step, Meet_step, Field_step, Lock_step}
use Rattle.mz_deriv.specs.Spelled.{IsNumber, IsWritable, StepSpelled}
use Rattle.mz_script.specs.Pieces.{Piece, Head_line, Fun_line, Step_line, Do_line, Case_line, Join_line, End_line, No_line}
use Rattle.mz_script.specs.Words.{name_text, data_text, atom_text, more_text}
use Rattle.mz_script.specs.Lines.{step_text, piece_text, line_of, PieceSpelled}
use Rattle.mz_script.specs.Fronts.{behind_text, choose_text, image, word_at}
use Rattle.mz_script.specs.ReadWords.{data_of, data_at, atom_at, atoms_at}
use Rattle.mz_script.specs.ReadLines.{equal_at, place_at, unfold_at, rename_at, clause_at, meet_at, field_at, lock_at, last_steps_at, more_steps_at, step_at, body_line_at, piece_at, any_line_at, ended, piece_of}
use Rattle.mz_script.proofs.Undoing.{Never, NoName, goes, ok_is, text_front, word_read, behind_never, both_never, image_read, word_never}
use Rattle.mz_script.proofs.Numerals.{decimal_names, decimal_digits, number_never, name_never, never_word}
use Rattle.mz_script.proofs.TypeTexts.{AfterType, AfterAll, OwnNames, atom_read, all_read}

after_end : AfterAll (10 ∷ [])
after_end = record { after = record { no_name = refl; no_clause = refl }; no_more = refl }

-- a word that isn't `adopts` begins no clause
no_clause_word : (word rest : List ℕ) → list_all is_name_byte word ≡ true → NoName rest → (word ≡ codes "adopts" → ⊥) → behind_text (codes "adopts ") (word ++ rest) ≡ None
no_clause_word word rest named f other = by_text (behind_text (codes "adopts ") (word ++ rest)) refl
  where
    by_text : (o : Option (List ℕ)) → behind_text (codes "adopts ") (word ++ rest) ≡ o → o ≡ None
    by_text None e = refl
    by_text (Some q) e =
        let split : word ++ rest ≡ codes "adopts" ++ (32 ∷ q) = text_front (codes "adopts ") (word ++ rest) q e in
        let two : ◌≡◌ {A = Read ℕ (List ℕ)} (Ok (word, rest)) (Ok (codes "adopts", 32 ∷ q)) = sym (word_read word rest named f) ∙ ap word_at split ∙ word_read (codes "adopts") (32 ∷ q) refl refl in
        absurd (other (word_is word (codes "adopts") rest (32 ∷ q) two))
      where
        word_is : (a b k l : List ℕ) → ◌≡◌ {A = Read ℕ (List ℕ)} (Ok (a, k)) (Ok (b, l)) → a ≡ b
        word_is a b k l h = ap (λ v. v.0) (ok_is (a, k) (b, l) h)

place_never : Never place_at (λ x. decimal x.0 ++ (codes " to " ++ name_text x.1)) (λ x. (x.0 < 2 ^ 32) × (x.1 < 2 ^ 32)) NoName
unfolding place_at
place_never = both_never number_never (behind_never name_never (codes " to ")) (λ b rest m g. refl)

module _ (p : Program) (N : OwnNames p) where
  atom_never : Never (atom_at p) (atom_text p) (IsWritable p) AfterType
  atom_never = record { is = λ a rest l f. atom_read p N a 200 rest l.0 l.1 f }

  data_never : Never (data_at p) (data_text p) (λ d. d < length p.varieties) NoName
  unfolding data_at
  data_never = never_word (data_at p) (data_of p) (data_text p) (λ d. d < length p.varieties) (λ bytes. refl) N.data_named

  -- what stands behind a permission in a line is no clause of it
  after_data : (d : ℕ) (rest : List ℕ) → d < length p.varieties → NoName rest → AfterType ((codes " " ++ data_text p d) ++ rest)
  after_data d rest h f = record { no_name = refl; no_clause = no_clause_word (data_text p d) rest (N.data_named d h).1 f (N.data_no_clause d h) }

  after_atom : (a : Atom ℕ) (rest : List ℕ) → AfterType ((codes " " ++ atom_text p a) ++ rest)
  after_atom (Has_atom x t) rest = record { no_name = refl; no_clause = refl }
  after_atom (Same_atom x y) rest = record { no_name = refl; no_clause = refl }

  after_place : (x : ℕ × ℕ) (rest : List ℕ) → x.0 < 2 ^ 32 → AfterType ((codes " " ++ (decimal x.0 ++ (codes " to " ++ name_text x.1))) ++ rest)
  after_place x rest h = record {
    no_name = refl;
    no_clause = ap (behind_text (codes "adopts ")) (append_assoc (decimal x.0) (codes " to " ++ name_text x.1) rest)
        ∙ no_clause_word (decimal x.0) ((codes " to " ++ name_text x.1) ++ rest) (decimal_names x.0 h) refl (λ e. no_digits (sym (decimal_digits x.0 h) ∙ ap all_ascii_digits e));
  }
    where
      no_digits : true ≡ all_ascii_digits (codes "adopts") → ⊥
      no_digits e = cc

  step_never : (s : Step) → StepSpelled p s → step_at p (step_text p s ++ 10 ∷ []) ≡ Ok (s, 10 ∷ [])
  unfolding step_at more_steps_at last_steps_at choose_text unfold_at rename_at equal_at clause_at meet_at field_at lock_at
  step_never (Drop_step a) h = image_read atom_never Drop_step a (10 ∷ []) h after_end.after
  step_never (Copy_step a) h = image_read atom_never Copy_step a (10 ∷ []) h after_end.after
  step_never (Unfold_step x d n) h =
      image_read (both_never name_never (behind_never (both_never data_never (behind_never number_never (codes " ")) (λ b rest m g. refl)) (codes " ")) (λ b rest m g. refl)) (λ (v : ℕ × (ℕ × ℕ)). Unfold_step v.0 v.1.0 v.1.1) (x, (d, n)) (10 ∷ []) (h.0, (h.1, h.2)) refl
  step_never (Fold_step a) h = image_read atom_never Fold_step a (10 ∷ []) h after_end.after
  step_never (Rename_step a z) h =
      image_read (both_never atom_never (behind_never name_never (codes " to ")) (λ b rest m g. record { no_name = refl; no_clause = refl })) (λ (v : Atom ℕ × ℕ). Rename_step v.0 v.1) (a, z) (10 ∷ []) h refl
  step_never (Equal_step x y) h = image_read (both_never name_never (behind_never name_never (codes " ")) (λ b rest m g. refl)) (λ (v : ℕ × ℕ). Equal_step v.0 v.1) (x, y) (10 ∷ []) h refl
  step_never (Dynamic_step x) h = image_read name_never Dynamic_step x (10 ∷ []) h refl
  step_never (Clause_step a u) h =
      image_read (both_never atom_never (behind_never data_never (codes " ")) (λ b rest m g. after_data b rest m g)) (λ (v : Atom ℕ × ℕ). Clause_step v.0 v.1) (a, u) (10 ∷ []) h refl
  step_never (Unknown_step x) h = image_read name_never Unknown_step x (10 ∷ []) h refl
  step_never (Meet_step a b) h =
      image_read (both_never atom_never (behind_never atom_never (codes " ")) (λ c rest m g. after_atom c rest)) (λ (v : Atom ℕ × Atom ℕ). Meet_step v.0 v.1) (a, b) (10 ∷ []) h after_end.after
  step_never (Field_step a i z) h =
      image_read (both_never atom_never (behind_never place_never (codes " ")) (λ x rest m g. after_place x rest m.0)) (λ (v : Atom ℕ × (ℕ × ℕ)). Field_step v.0 v.1.0 v.1.1) (a, (i, z)) (10 ∷ []) (h.0, (h.1, h.2)) refl
  step_never (Lock_step a k z) h =
      image_read (both_never atom_never (behind_never place_never (codes " ")) (λ x rest m g. after_place x rest m.0)) (λ (v : Atom ℕ × (ℕ × ℕ)). Lock_step v.0 v.1.0 v.1.1) (a, (k, z)) (10 ∷ []) (h.0, (h.1, h.2)) refl

  from_step : (s : Step) → step_at p (step_text p s ++ 10 ∷ []) ≡ Ok (s, 10 ∷ []) → image Step_line (step_at p) (step_text p s ++ 10 ∷ []) ≡ Ok (Step_line s, 10 ∷ [])
  from_step s e = goes (step_at p (step_text p s ++ 10 ∷ [])) (λ x. Ok (Step_line x.0, x.1)) (s, 10 ∷ []) e

  each_fits : (atoms : List (Atom ℕ)) → Each (λ _ a. IsWritable p a) atoms → FitsAtoms p IsNumber (atoms_of atoms) × (depth_in (atoms_of atoms) ≤ 200)
  each_fits [] h = (tt, omega arith)
  each_fits (a ∷ atoms) h =
      let here = h 0 a refl in
      let more = each_fits atoms (λ k b e. h (suc k) b e) in
      ((here.0, more.0), (let one = here.1 in let others = more.1 in omega arith))

  any_never : (q : Piece) → PieceSpelled p q → any_line_at p (piece_text p q ++ 10 ∷ []) ≡ Ok (q, 10 ∷ [])
  unfolding any_line_at piece_at body_line_at choose_text
  any_never Head_line h = refl
  any_never (Fun_line name) h = image_read word_never Fun_line name (10 ∷ []) h refl
  any_never (Step_line (Drop_step a)) h = from_step (Drop_step a) (step_never (Drop_step a) h)
  any_never (Step_line (Copy_step a)) h = from_step (Copy_step a) (step_never (Copy_step a) h)
  any_never (Step_line (Unfold_step x d n)) h = from_step (Unfold_step x d n) (step_never (Unfold_step x d n) h)
  any_never (Step_line (Fold_step a)) h = from_step (Fold_step a) (step_never (Fold_step a) h)
  any_never (Step_line (Rename_step a z)) h = from_step (Rename_step a z) (step_never (Rename_step a z) h)
  any_never (Step_line (Equal_step x y)) h = from_step (Equal_step x y) (step_never (Equal_step x y) h)
  any_never (Step_line (Dynamic_step x)) h = from_step (Dynamic_step x) (step_never (Dynamic_step x) h)
  any_never (Step_line (Clause_step a u)) h = from_step (Clause_step a u) (step_never (Clause_step a u) h)
  any_never (Step_line (Unknown_step x)) h = from_step (Unknown_step x) (step_never (Unknown_step x) h)
  any_never (Step_line (Meet_step a b)) h = from_step (Meet_step a b) (step_never (Meet_step a b) h)
  any_never (Step_line (Field_step a i z)) h = from_step (Field_step a i z) (step_never (Field_step a i z) h)
  any_never (Step_line (Lock_step a k z)) h = from_step (Lock_step a k z) (step_never (Lock_step a k z) h)
  any_never (Do_line None) h = refl
  any_never (Do_line (Some a)) h = image_read atom_never (λ (b : Atom ℕ). Do_line (Some b)) a (10 ∷ []) h after_end.after
  any_never (Case_line n) h = image_read number_never Case_line n (10 ∷ []) h refl
  any_never (Join_line []) h = refl
  any_never (Join_line (a ∷ atoms)) h =
      let fits = each_fits (a ∷ atoms) h in
      goes (atoms_at p ((atom_text p a ++ more_text p (atoms_of atoms)) ++ 10 ∷ [])) (λ x. Ok (Join_line x.0, x.1)) (a ∷ list_of (atoms_of atoms), 10 ∷ [])
      (ap (atoms_at p) (append_assoc (atom_text p a) (more_text p (atoms_of atoms)) (10 ∷ [])) ∙ all_read p N a (atoms_of atoms) 200 (10 ∷ []) fits.0 fits.1 after_end)
      ∙ ap (λ l. Ok (Join_line (a ∷ l), 10 ∷ [])) (list_of_atoms atoms)
  any_never End_line h = refl
  any_never No_line h = absurd h

  -- a line that spells a piece says that piece
  pub piece_is : (q : Piece) → PieceSpelled p q → piece_of p (line_of p q) ≡ q
  unfolding piece_of
  piece_is q h = ap (ended p) (any_never q h)
