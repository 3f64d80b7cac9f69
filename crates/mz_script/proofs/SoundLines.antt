-- What is read as a line is spelled so, and names what is declared.
use Rattle.std.proofs.Common.{◌≡◌, ◌≤◌, ◌<◌, ◌^◌, ◌+◌, ℕ, zero, suc, Bool, true, false, List, [], ◌∷◌, ◌++◌, length, Option, Some, None, IfSome, Ok, Err, Result, slice_get, codes, decimal, if◌then◌else◌, refl, sym, ap, subst, ◌∙◌, append_assoc, append-nil, arith, inl, inr, ◌⊎◌}
use Rattle.std.specs.Str.{bytes_eq}
use Rattle.std.specs.List.{list_all}
use Rattle.mz_grammar.specs.Reading.{Read, Wrong, ◌>>=◌}
use Rattle.mz_tree.specs.Bytes.{is_name_byte}
use Rattle.mz_tree.specs.Plain.{Atom, Atoms, No_atoms, More_atoms, atoms_of}
use Rattle.mz_tree.specs.Programs.{Program}
use Rattle.mz_tree.specs.Scoped.{Each, FitsAtom, FitsAtoms, IsLawful, atom_depth, depth_in}
use Rattle.mz_view.specs.Steps.{Step, Drop_step, Copy_step, Unfold_step, Fold_step, Rename_step, Equal_step, Dynamic_step, Clause_step, Unknown_step, Meet_step, Field_step, Lock_step}
use Rattle.mz_deriv.specs.Spelled.{IsNumber, IsWritable, StepSpelled}
use Rattle.mz_script.specs.Pieces.{Piece, Head_line, Fun_line, Step_line, Do_line, Case_line, Join_line, End_line, No_line}
use Rattle.mz_script.specs.Words.{name_text, data_text, atom_text, atoms_text}
use Rattle.mz_script.specs.Lines.{step_text, do_text, join_text, piece_text, line_of, PieceSpelled}
use Rattle.mz_script.specs.Fronts.{choose_text, behind, both, image, word_at, number_at, name_at}
use Rattle.mz_script.specs.ReadWords.{data_at, atom_at, atoms_at}
use Rattle.mz_script.specs.ReadLines.{equal_at, place_at, unfold_at, rename_at, clause_at, meet_at, field_at, lock_at, last_steps_at, more_steps_at, step_at, body_line_at, piece_at, any_line_at, ended, piece_of}
use Rattle.mz_script.proofs.Undoing.{Sound, ok_is, choice, Behind, behind_sound, both_sound, image_was, Made, word_sound}
use Rattle.mz_script.proofs.Numerals.{number_sound, name_sound}
use Rattle.mz_script.proofs.Naming.{same_text}
use Rattle.mz_script.proofs.Spelling.{Sayable}
use Rattle.mz_script.proofs.SoundTypes.{AtomIs, AtomsAre, atom_sound, atoms_sound, data_sound}

place_sound : Sound place_at (λ x. decimal x.0 ++ (codes " to " ++ name_text x.1)) (λ x. (x.0 < 2 ^ 32) × (x.1 < 2 ^ 32))
unfolding place_at
place_sound = both_sound number_sound (behind_sound name_sound (codes " to "))

module _ (p : Program) where
  one_sound : Sound (atom_at p) (atom_text p) (IsWritable p)
  one_sound = record { is = λ bytes rest a e. (let w = atom_sound p bytes rest a e in (w.split, (w.fits, w.deep))) }

  -- the permissions of a list, one by one
  each_lawful : (atoms : List (Atom ℕ)) → FitsAtoms p IsNumber (atoms_of atoms) → depth_in (atoms_of atoms) ≤ 200 → Each (λ _ a. IsWritable p a) atoms
  each_lawful [] fits deep k a e = cc
  each_lawful (b ∷ atoms) fits deep zero a e = let same : b ≡ a = cc in subst (IsWritable p) same (fits.0, omega arith)
  each_lawful (b ∷ atoms) fits deep (suc k) a e = each_lawful atoms fits.1 (omega arith) k a e

  some_text : (atoms : List (Atom ℕ)) → (atoms_of atoms ≡ No_atoms → ⊥) → codes "join " ++ atoms_text p (atoms_of atoms) ≡ join_text p atoms
  some_text [] some = absurd (some refl)
  some_text (a ∷ atoms) some = refl

  -- ---- steps

  -- this step stands at the front, behind nothing
  abbrev StepIs : List ℕ → List ℕ → Step → Type 0
  StepIs bytes rest s = (bytes ≡ step_text p s ++ rest) × StepSpelled p s

  -- a step behind its word
  module _ {A : Type 0} {r : List ℕ → Read ℕ A} {t : A → List ℕ} {L : A → Type 0} (U : Sound r t L) where
    step_was : (word : List ℕ) (f : A → Step) (bytes rest : List ℕ) (s : Step) → ((a : A) → step_text p (f a) ≡ word ++ t a) → ((a : A) → L a → StepSpelled p (f a)) → Behind word (image f r) bytes (s, rest) → StepIs bytes rest s
    step_was word f bytes rest s text lawful b =
        let m = image_was U f b.rest rest s b.reads in
        subst (StepIs bytes rest) (sym m.same) (b.split ∙ ap (λ l. word ++ l) m.split ∙ sym (append_assoc word (t m.value) rest) ∙ ap (λ l. l ++ rest) (sym (text m.value)), lawful m.value m.lawful)

  last_steps_were : (bytes rest : List ℕ) (s : Step) → last_steps_at p bytes ≡ Ok (s, rest) → StepIs bytes rest s
  unfolding last_steps_at meet_at field_at lock_at
  last_steps_were bytes rest s e = elim (choice (codes "meet ") (meet_at p) (choose_text (codes "infield ") (field_at p) (choose_text (codes "inlock ") (lock_at p) (λ b. Err (Wrong b)))) bytes (s, rest) e) [
    | inl w ↦ step_was (both_sound one_sound (behind_sound one_sound (codes " "))) (codes "meet ") (λ (x : Atom ℕ × Atom ℕ). Meet_step x.0 x.1) bytes rest s (λ x. refl) (λ x l. l) w
    | inr e1 ↦ elim (choice (codes "infield ") (field_at p) (choose_text (codes "inlock ") (lock_at p) (λ b. Err (Wrong b))) bytes (s, rest) e1) [
      | inl w ↦ step_was (both_sound one_sound (behind_sound place_sound (codes " "))) (codes "infield ") (λ (x : Atom ℕ × (ℕ × ℕ)). Field_step x.0 x.1.0 x.1.1) bytes rest s (λ x. refl) (λ x l. (l.0, l.1.0, l.1.1)) w
      | inr e2 ↦ elim (choice (codes "inlock ") (lock_at p) (λ b. Err (Wrong b)) bytes (s, rest) e2) [
        | inl w ↦ step_was (both_sound one_sound (behind_sound place_sound (codes " "))) (codes "inlock ") (λ (x : Atom ℕ × (ℕ × ℕ)). Lock_step x.0 x.1.0 x.1.1) bytes rest s (λ x. refl) (λ x l. (l.0, l.1.0, l.1.1)) w
        | inr e3 ↦ cc
      ]
    ]
  ]

  more_steps_were : (bytes rest : List ℕ) (s : Step) → more_steps_at p bytes ≡ Ok (s, rest) → StepIs bytes rest s
  unfolding more_steps_at equal_at clause_at
  more_steps_were bytes rest s e = elim (choice (codes "equal ") equal_at (choose_text (codes "dynamic ") (image Dynamic_step name_at) (choose_text (codes "clause ") (clause_at p) (choose_text (codes "unknown ") (image Unknown_step name_at) (last_steps_at p)))) bytes (s, rest) e) [
    | inl w ↦ step_was (both_sound name_sound (behind_sound name_sound (codes " "))) (codes "equal ") (λ (x : ℕ × ℕ). Equal_step x.0 x.1) bytes rest s (λ x. refl) (λ x l. l) w
    | inr e1 ↦ elim (choice (codes "dynamic ") (image Dynamic_step name_at) (choose_text (codes "clause ") (clause_at p) (choose_text (codes "unknown ") (image Unknown_step name_at) (last_steps_at p))) bytes (s, rest) e1) [
      | inl w ↦ step_was name_sound (codes "dynamic ") Dynamic_step bytes rest s (λ x. refl) (λ x l. l) w
      | inr e2 ↦ elim (choice (codes "clause ") (clause_at p) (choose_text (codes "unknown ") (image Unknown_step name_at) (last_steps_at p)) bytes (s, rest) e2) [
        | inl w ↦ step_was (both_sound one_sound (behind_sound (data_sound p) (codes " "))) (codes "clause ") (λ (x : Atom ℕ × ℕ). Clause_step x.0 x.1) bytes rest s (λ x. refl) (λ x l. l) w
        | inr e3 ↦ elim (choice (codes "unknown ") (image Unknown_step name_at) (last_steps_at p) bytes (s, rest) e3) [
          | inl w ↦ step_was name_sound (codes "unknown ") Unknown_step bytes rest s (λ x. refl) (λ x l. l) w
          | inr e4 ↦ last_steps_were bytes rest s e4
        ]
      ]
    ]
  ]

  steps_were : (bytes rest : List ℕ) (s : Step) → step_at p bytes ≡ Ok (s, rest) → StepIs bytes rest s
  unfolding step_at unfold_at rename_at
  steps_were bytes rest s e = elim (choice (codes "drop ") (image Drop_step (atom_at p)) (choose_text (codes "copy ") (image Copy_step (atom_at p)) (choose_text (codes "unfold ") (unfold_at p) (choose_text (codes "fold ") (image Fold_step (atom_at p)) (choose_text (codes "rename ") (rename_at p) (more_steps_at p))))) bytes (s, rest) e) [
    | inl w ↦ step_was one_sound (codes "drop ") Drop_step bytes rest s (λ x. refl) (λ x l. l) w
    | inr e1 ↦ elim (choice (codes "copy ") (image Copy_step (atom_at p)) (choose_text (codes "unfold ") (unfold_at p) (choose_text (codes "fold ") (image Fold_step (atom_at p)) (choose_text (codes "rename ") (rename_at p) (more_steps_at p)))) bytes (s, rest) e1) [
      | inl w ↦ step_was one_sound (codes "copy ") Copy_step bytes rest s (λ x. refl) (λ x l. l) w
      | inr e2 ↦ elim (choice (codes "unfold ") (unfold_at p) (choose_text (codes "fold ") (image Fold_step (atom_at p)) (choose_text (codes "rename ") (rename_at p) (more_steps_at p))) bytes (s, rest) e2) [
        | inl w ↦ step_was (both_sound name_sound (behind_sound (both_sound (data_sound p) (behind_sound number_sound (codes " "))) (codes " "))) (codes "unfold ") (λ (x : ℕ × (ℕ × ℕ)). Unfold_step x.0 x.1.0 x.1.1) bytes rest s (λ x. refl) (λ x l. (l.0, l.1.0, l.1.1)) w
        | inr e3 ↦ elim (choice (codes "fold ") (image Fold_step (atom_at p)) (choose_text (codes "rename ") (rename_at p) (more_steps_at p)) bytes (s, rest) e3) [
          | inl w ↦ step_was one_sound (codes "fold ") Fold_step bytes rest s (λ x. refl) (λ x l. l) w
          | inr e4 ↦ elim (choice (codes "rename ") (rename_at p) (more_steps_at p) bytes (s, rest) e4) [
            | inl w ↦ step_was (both_sound one_sound (behind_sound name_sound (codes " to "))) (codes "rename ") (λ (x : Atom ℕ × ℕ). Rename_step x.0 x.1) bytes rest s (λ x. refl) (λ x l. l) w
            | inr e5 ↦ more_steps_were bytes rest s e5
          ]
        ]
      ]
    ]
  ]

  -- ---- lines

  -- this piece stands at the front
  abbrev PieceIs : List ℕ → List ℕ → Piece → Type 0
  PieceIs bytes rest q = (bytes ≡ piece_text p q ++ rest) × PieceSpelled p q

  module _ {A : Type 0} {r : List ℕ → Read ℕ A} {t : A → List ℕ} {L : A → Type 0} (U : Sound r t L) where
    line_was : (word : List ℕ) (f : A → Piece) (bytes rest : List ℕ) (q : Piece) → ((a : A) → L a → piece_text p (f a) ≡ word ++ t a) → ((a : A) → L a → PieceSpelled p (f a)) → Behind word (image f r) bytes (q, rest) → PieceIs bytes rest q
    line_was word f bytes rest q text lawful b =
        let m = image_was U f b.rest rest q b.reads in
        subst (PieceIs bytes rest) (sym m.same) (b.split ∙ ap (λ l. word ++ l) m.split ∙ sym (append_assoc word (t m.value) rest) ∙ ap (λ l. l ++ rest) (sym (text m.value m.lawful)), lawful m.value m.lawful)

  -- a line that is its word alone
  word_line : (word : List ℕ) (q q1 : Piece) (bytes rest : List ℕ) → piece_text p q1 ≡ word → PieceSpelled p q1 → Behind word (λ b. Ok (q1, b)) bytes (q, rest) → PieceIs bytes rest q
  word_line word q q1 bytes rest text spelled b =
      let pair = ok_is (q1, b.rest) (q, rest) b.reads in
      subst (PieceIs bytes rest) (ap (λ v. v.0) pair) (b.split ∙ ap (λ l. l ++ b.rest) (sym text) ∙ ap (λ l. piece_text p q1 ++ l) (ap (λ v. v.1) pair), spelled)

  all_sound : Sound (atoms_at p) (λ atoms. atoms_text p (atoms_of atoms)) (λ atoms. (atoms_of atoms ≡ No_atoms → ⊥) × Each (λ _ a. IsWritable p a) atoms)
  all_sound = record { is = λ bytes rest atoms e. (let w = atoms_sound p bytes rest atoms e in (w.split, (w.some, each_lawful atoms w.fits w.deep))) }

  step_sound : Sound (step_at p) (step_text p) (StepSpelled p)
  step_sound = record { is = λ bytes rest s e. steps_were bytes rest s e }

  body_line_was : (bytes rest : List ℕ) (q : Piece) → body_line_at p bytes ≡ Ok (q, rest) → PieceIs bytes rest q
  unfolding body_line_at
  body_line_was bytes rest q e = elim (choice (codes "join ") (image Join_line (atoms_at p)) (choose_text (codes "join") (λ b. Ok (Join_line [], b)) (choose_text (codes "end") (λ b. Ok (End_line, b)) (image Step_line (step_at p)))) bytes (q, rest) e) [
    | inl w ↦ line_was all_sound (codes "join ") Join_line bytes rest q (λ atoms l. sym (some_text atoms l.0)) (λ atoms l. l.1) w
    | inr e1 ↦ elim (choice (codes "join") (λ b. Ok (Join_line [], b)) (choose_text (codes "end") (λ b. Ok (End_line, b)) (image Step_line (step_at p))) bytes (q, rest) e1) [
      | inl w ↦ word_line (codes "join") q (Join_line []) bytes rest refl (λ k a h. cc) w
      | inr e2 ↦ elim (choice (codes "end") (λ b. Ok (End_line, b)) (image Step_line (step_at p)) bytes (q, rest) e2) [
        | inl w ↦ word_line (codes "end") q End_line bytes rest refl tt w
        | inr e3 ↦
            let m = image_was step_sound Step_line bytes rest q e3 in
            subst (PieceIs bytes rest) (sym m.same) (m.split, m.lawful)
      ]
    ]
  ]

  piece_was : (bytes rest : List ℕ) (q : Piece) → piece_at p bytes ≡ Ok (q, rest) → PieceIs bytes rest q
  unfolding piece_at
  piece_was bytes rest q e = elim (choice (codes "do ") (image (λ a. Do_line (Some a)) (atom_at p)) (choose_text (codes "do") (λ b. Ok (Do_line None, b)) (choose_text (codes "case ") (image Case_line number_at) (body_line_at p))) bytes (q, rest) e) [
    | inl w ↦ line_was one_sound (codes "do ") (λ a. Do_line (Some a)) bytes rest q (λ a l. refl) (λ a l. l) w
    | inr e1 ↦ elim (choice (codes "do") (λ b. Ok (Do_line None, b)) (choose_text (codes "case ") (image Case_line number_at) (body_line_at p)) bytes (q, rest) e1) [
      | inl w ↦ word_line (codes "do") q (Do_line None) bytes rest refl tt w
      | inr e2 ↦ elim (choice (codes "case ") (image Case_line number_at) (body_line_at p) bytes (q, rest) e2) [
        | inl w ↦ line_was number_sound (codes "case ") Case_line bytes rest q (λ a l. refl) (λ a l. l) w
        | inr e3 ↦ body_line_was bytes rest q e3
      ]
    ]
  ]

  any_line_was : (bytes rest : List ℕ) (q : Piece) → any_line_at p bytes ≡ Ok (q, rest) → PieceIs bytes rest q
  unfolding any_line_at
  any_line_was bytes rest q e = elim (choice (codes "%derivation 1") (λ b. Ok (Head_line, b)) (choose_text (codes "fun ") (image Fun_line word_at) (piece_at p)) bytes (q, rest) e) [
    | inl w ↦ word_line (codes "%derivation 1") q Head_line bytes rest refl tt w
    | inr e1 ↦ elim (choice (codes "fun ") (image Fun_line word_at) (piece_at p) bytes (q, rest) e1) [
      | inl w ↦ line_was word_sound (codes "fun ") Fun_line bytes rest q (λ a l. refl) (λ a l. l) w
      | inr e2 ↦ piece_was bytes rest q e2
    ]
  ]

  -- ---- a whole line

  -- a piece, or no line of the format
  abbrev LineIs : List ℕ → Piece → Type 0
  LineIs line q = ((line ≡ line_of p q) × PieceSpelled p q) ⊎ (q ≡ No_line)

  line_is : (line : List ℕ) → LineIs line (piece_of p line)
  unfolding piece_of
  line_is line = by_read (any_line_at p line) refl
    where
      by_read : (r : Read ℕ Piece) → any_line_at p line ≡ r → LineIs line (ended p r)
      by_read (Err f) e = inr refl
      by_read (Ok x) e = by_end (bytes_eq x.1 (10 ∷ [])) refl
        where
          by_end : (b : Bool) → bytes_eq x.1 (10 ∷ []) ≡ b → LineIs line (if b then x.0 else No_line)
          by_end false h = inr refl
          by_end true h = let w = any_line_was line x.1 x.0 e in inl (w.0 ∙ ap (λ l. piece_text p x.0 ++ l) (same_text x.1 (10 ∷ []) h), w.1)

  pub line_says : (line : List ℕ) (q : Piece) → piece_of p line ≡ q → (q ≡ No_line → ⊥) → (line ≡ line_of p q) × PieceSpelled p q
  line_says line q e some = elim (line_is line) [
    | inl w ↦ subst (λ r. (line ≡ line_of p r) × PieceSpelled p r) e w
    | inr none ↦ absurd (some (sym e ∙ none))
  ]

  pub sayable : (line : List ℕ) → Sayable p (piece_of p line)
  sayable line = by_piece (piece_of p line) (line_is line)
    where
      by_piece : (q : Piece) → LineIs line q → Sayable p q
      by_piece No_line h = tt
      by_piece Head_line h = tt
      by_piece End_line h = tt
      by_piece (Fun_line name) h = elim h [ inl w ↦ w.1 | inr none ↦ cc ]
      by_piece (Step_line s) h = elim h [ inl w ↦ w.1 | inr none ↦ cc ]
      by_piece (Do_line uses) h = elim h [ inl w ↦ w.1 | inr none ↦ cc ]
      by_piece (Case_line n) h = elim h [ inl w ↦ w.1 | inr none ↦ cc ]
      by_piece (Join_line atoms) h = elim h [ inl w ↦ w.1 | inr none ↦ cc ]
