-- No line ends inside of what a line says.
use Rattle.std.proofs.Common.{◌≡◌, ◌==◌, ◌<◌, ◌^◌, ℕ, suc, Bool, true, false, not, List, [], ◌∷◌, ◌++◌, length, Option, Some, None, IfSome, decimal, codes, refl, sym, ap, subst, ◌∙◌, eqb-true}
use Rattle.std.specs.List.{list_all}
use Rattle.mz_tree.specs.Bytes.{is_name_byte}
use Rattle.mz_tree.specs.Plain.{Ty, Atom, Atoms, Int_type, Unknown_type, Dynamic_type, Locked_type, Named_type, Function_type, Block_type, Lock_type, Has_atom, Same_atom, No_atoms, More_atoms, atoms_of}
use Rattle.mz_tree.specs.Programs.{Con, Field, Program}
use Rattle.mz_tree.specs.Scoped.{Scoped, Each, HasFields, FitsType, FitsAtom, FitsAtoms}
use Rattle.mz_view.specs.Steps.{Step, Drop_step, Copy_step, Unfold_step, Fold_step, Rename_step, Equal_step, Dynamic_step, Clause_step, Unknown_step, Meet_step, Field_step, Lock_step}
use Rattle.mz_deriv.specs.Scripts.{Item}
use Rattle.mz_deriv.specs.Spelled.{IsNumber, IsWritable, StepSpelled}
use Rattle.mz_script.specs.Pieces.{Piece, Head_line, Fun_line, Step_line, Do_line, Case_line, Join_line, End_line, No_line, script_pieces}
use Rattle.mz_script.specs.Words.{name_text, con_name, con_fields, fields_text, data_text, sig_text, adopts_text, block_text, type_text, atom_text, atoms_text, more_text}
use Rattle.mz_script.specs.Lines.{step_text, piece_text, PieceSpelled}
use Rattle.mz_script.specs.Cutting.{lines}
use Rattle.mz_script.specs.Texts.{IsScript, IsScriptText}
use Rattle.mz_script.proofs.Cuts.{NoEnd, AllEnd, lines_of}
use Rattle.mz_script.proofs.Undoing.{and_left, and_right}
use Rattle.mz_script.proofs.Numerals.{decimal_names}
use Rattle.mz_script.proofs.ProgramNames.{own_names, lower_names}
use Rattle.mz_script.proofs.Exact.{AllSpelled, one_by_one, funs_spelled, names_are_words}

ends_not : (a b : List ℕ) → NoEnd a → NoEnd b → NoEnd (a ++ b)
ends_not [] b h g = g
ends_not (c ∷ a) b (one, h) g = (one, ends_not a b h g)

no_end_byte : (b : ℕ) → is_name_byte b ≡ true → (b == 10) ≡ false
no_end_byte b h = by_test (b == 10) refl
  where
    by_test : (t : Bool) → (b == 10) ≡ t → (b == 10) ≡ false
    by_test true e = (let bad : is_name_byte 10 ≡ true = subst (λ c. is_name_byte c ≡ true) (eqb-true b 10 e) h in cc)
    by_test false e = e

word_end : (word : List ℕ) → list_all is_name_byte word ≡ true → NoEnd word
word_end [] h = tt
word_end (b ∷ word) h = (no_end_byte b (and_left (is_name_byte b) (list_all is_name_byte word) h), word_end word (and_right (is_name_byte b) (list_all is_name_byte word) h))

text_end : (text : List ℕ) → list_all (λ b. not (b == 10)) text ≡ true → NoEnd text
text_end [] h = tt
text_end (b ∷ text) h = (by_test (b == 10) refl (and_left (not (b == 10)) (list_all (λ c. not (c == 10)) text) h), text_end text (and_right (not (b == 10)) (list_all (λ c. not (c == 10)) text) h))
  where
    by_test : (t : Bool) → (b == 10) ≡ t → not (b == 10) ≡ true → (b == 10) ≡ false
    by_test true e g = (let bad : not true ≡ true = sym (ap not e) ∙ g in cc)
    by_test false e g = e

digits_end : (n : ℕ) → n < 2 ^ 32 → NoEnd (decimal n)
digits_end n h = word_end (decimal n) (decimal_names n h)

name_end : (n : ℕ) → n < 2 ^ 32 → NoEnd (name_text n)
name_end n h = (refl, digits_end n h)

fields_end : (before : List ℕ) (fields : List Field) (names : List ℕ) → NoEnd before → Each (λ _ (f : Field). NoEnd f.name) fields → Each (λ _ n. n < 2 ^ 32) names → NoEnd (fields_text before fields names)
fields_end before [] names b h g = tt
fields_end before (f ∷ fields) [] b h g = tt
fields_end before (f ∷ fields) (n ∷ names) b h g =
    ends_not before (f.name ++ (codes " = " ++ (name_text n ++ fields_text (codes "; ") fields names))) b
    (ends_not f.name (codes " = " ++ (name_text n ++ fields_text (codes "; ") fields names)) (h 0 f refl) (
      refl,
      (
        refl,
        (
          refl,
          ends_not (name_text n) (fields_text (codes "; ") fields names) (name_end n (g 0 n refl))
              (fields_end (codes "; ") fields names (refl, (refl, tt)) (λ k e i. h (suc k) e i) (λ k m i. g (suc k) m i)),
        ),
      ),
    ))

module _ (p : Program) (S : Scoped p) where
  data_end : (d : ℕ) → d < length p.varieties → NoEnd (data_text p d)
  data_end d h = word_end (data_text p d) ((own_names p S).data_named d h).1

  adopts_end : (adopts : Option ℕ) → IfSome adopts (λ d. d < length p.varieties) → NoEnd (adopts_text p adopts)
  adopts_end None h = tt
  adopts_end (Some d) h = ends_not (codes " adopts ") (data_text p d) (text_end (codes " adopts ") refl) (data_end d h)

  block_end : (con : ℕ) (names : List ℕ) (adopts : Option ℕ) → HasFields p con (length names) → Each (λ _ n. n < 2 ^ 32) names → IfSome adopts (λ d. d < length p.varieties) → NoEnd (block_text p con names adopts)
  block_end con names adopts has known adopted =
      subst (λ (o : Option Con). NoEnd (con_name o ++ (codes " {" ++ (fields_text (codes " ") (con_fields o) names ++ (codes " }" ++ adopts_text p adopts))))) (sym has.declared)
      (ends_not has.found.name (codes " {" ++ (fields_text (codes " ") has.found.fields names ++ (codes " }" ++ adopts_text p adopts))) (word_end has.found.name ((own_names p S).con_known con has.found has.declared).3) (
        refl,
        (
          refl,
          ends_not (fields_text (codes " ") has.found.fields names) (codes " }" ++ adopts_text p adopts)
              (fields_end (codes " ") has.found.fields names (refl, tt) (λ k f e. (let con_is = S.cons con has.found has.declared in let field_is = con_is.fields k f e in word_end f.name (lower_names f.name field_is.name))) known)
              (refl, (refl, adopts_end adopts adopted)),
        ),
      ))

  mutual
    type_end : (t : Ty ℕ) → FitsType p IsNumber t → NoEnd (type_text p t)
    type_end Int_type h = text_end (codes "int") refl
    type_end Unknown_type h = text_end (codes "unknown") refl
    type_end Dynamic_type h = text_end (codes "dynamic") refl
    type_end Locked_type h = text_end (codes "locked") refl
    type_end (Named_type d) h = data_end d h
    type_end (Function_type s) h = word_end (sig_text p s) ((own_names p S).sig_known s h).2
    type_end (Block_type con names adopts) h = block_end con names adopts h.0 h.1 h.2
    type_end (Lock_type guarded) h = ends_not (codes "lock (") (atoms_text p guarded ++ codes ")") (text_end (codes "lock (") refl) (ends_not (atoms_text p guarded) (codes ")") (all_end guarded h.1) (refl, tt))

    atom_end : (a : Atom ℕ) → FitsAtom p IsNumber a → NoEnd (atom_text p a)
    atom_end (Has_atom x t) h = ends_not (name_text x) (codes " @ " ++ type_text p t) (name_end x h.0) (refl, (refl, (refl, type_end t h.1)))
    atom_end (Same_atom x y) h = ends_not (name_text x) (codes " = " ++ name_text y) (name_end x h.0) (refl, (refl, (refl, name_end y h.1)))

    all_end : (guarded : Atoms ℕ) → FitsAtoms p IsNumber guarded → NoEnd (atoms_text p guarded)
    all_end No_atoms h = tt
    all_end (More_atoms a rest) h = ends_not (atom_text p a) (more_text p rest) (atom_end a h.0) (more_end rest h.1)

    more_end : (guarded : Atoms ℕ) → FitsAtoms p IsNumber guarded → NoEnd (more_text p guarded)
    more_end No_atoms h = tt
    more_end (More_atoms a rest) h = (refl, (refl, (refl, ends_not (atom_text p a) (more_text p rest) (atom_end a h.0) (more_end rest h.1))))

  written_end : (a : Atom ℕ) → IsWritable p a → NoEnd (atom_text p a)
  written_end a h = atom_end a h.0

  each_end : (atoms : List (Atom ℕ)) → Each (λ _ a. IsWritable p a) atoms → FitsAtoms p IsNumber (atoms_of atoms)
  each_end [] h = tt
  each_end (a ∷ atoms) h = (let here = h 0 a refl in (here.0, each_end atoms (λ k b e. h (suc k) b e)))

  then_end : (front back : List ℕ) → list_all (λ b. not (b == 10)) front ≡ true → NoEnd back → NoEnd (front ++ back)
  then_end front back h g = ends_not front back (text_end front h) g

  step_end : (s : Step) → StepSpelled p s → NoEnd (step_text p s)
  step_end (Drop_step a) h = then_end (codes "drop ") (atom_text p a) refl (written_end a h)
  step_end (Copy_step a) h = then_end (codes "copy ") (atom_text p a) refl (written_end a h)
  step_end (Unfold_step x d n) h = then_end (codes "unfold ") (name_text x ++ (codes " " ++ (data_text p d ++ (codes " " ++ decimal n)))) refl (ends_not (name_text x) (codes " " ++ (data_text p d ++ (codes " " ++ decimal n))) (name_end x h.0) (refl, ends_not (data_text p d) (codes " " ++ decimal n) (data_end d h.1) (refl, digits_end n h.2)))
  step_end (Fold_step a) h = then_end (codes "fold ") (atom_text p a) refl (written_end a h)
  step_end (Rename_step a z) h = then_end (codes "rename ") (atom_text p a ++ (codes " to " ++ name_text z)) refl (ends_not (atom_text p a) (codes " to " ++ name_text z) (written_end a h.0) (then_end (codes " to ") (name_text z) refl (name_end z h.1)))
  step_end (Equal_step x y) h = then_end (codes "equal ") (name_text x ++ (codes " " ++ name_text y)) refl (ends_not (name_text x) (codes " " ++ name_text y) (name_end x h.0) (refl, name_end y h.1))
  step_end (Dynamic_step x) h = then_end (codes "dynamic ") (name_text x) refl (name_end x h)
  step_end (Clause_step a u) h = then_end (codes "clause ") (atom_text p a ++ (codes " " ++ data_text p u)) refl (ends_not (atom_text p a) (codes " " ++ data_text p u) (written_end a h.0) (refl, data_end u h.1))
  step_end (Unknown_step x) h = then_end (codes "unknown ") (name_text x) refl (name_end x h)
  step_end (Meet_step a b) h = then_end (codes "meet ") (atom_text p a ++ (codes " " ++ atom_text p b)) refl (ends_not (atom_text p a) (codes " " ++ atom_text p b) (written_end a h.0) (refl, written_end b h.1))
  step_end (Field_step a i z) h = then_end (codes "infield ") (atom_text p a ++ (codes " " ++ (decimal i ++ (codes " to " ++ name_text z)))) refl (ends_not (atom_text p a) (codes " " ++ (decimal i ++ (codes " to " ++ name_text z))) (written_end a h.0) (refl, ends_not (decimal i) (codes " to " ++ name_text z) (digits_end i h.1) (then_end (codes " to ") (name_text z) refl (name_end z h.2))))
  step_end (Lock_step a k z) h = then_end (codes "inlock ") (atom_text p a ++ (codes " " ++ (decimal k ++ (codes " to " ++ name_text z)))) refl (ends_not (atom_text p a) (codes " " ++ (decimal k ++ (codes " to " ++ name_text z))) (written_end a h.0) (refl, ends_not (decimal k) (codes " to " ++ name_text z) (digits_end k h.1) (then_end (codes " to ") (name_text z) refl (name_end z h.2))))

  pub piece_end : (q : Piece) → PieceSpelled p q → NoEnd (piece_text p q)
  piece_end Head_line h = text_end (codes "%derivation 1") refl
  piece_end (Fun_line name) h = then_end (codes "fun ") name refl (word_end name h)
  piece_end (Step_line s) h = step_end s h
  piece_end (Do_line None) h = text_end (codes "do") refl
  piece_end (Do_line (Some a)) h = then_end (codes "do ") (atom_text p a) refl (written_end a h)
  piece_end (Case_line n) h = then_end (codes "case ") (decimal n) refl (digits_end n h)
  piece_end (Join_line []) h = text_end (codes "join") refl
  piece_end (Join_line (a ∷ atoms)) h = then_end (codes "join ") (atoms_text p (atoms_of (a ∷ atoms))) refl (all_end (atoms_of (a ∷ atoms)) (each_end (a ∷ atoms) h))
  piece_end End_line h = text_end (codes "end") refl
  piece_end No_line h = absurd h

  all_ends : (ps : List Piece) → AllSpelled p ps → AllEnd (piece_text p) ps
  all_ends [] h = tt
  all_ends (q ∷ ps) (one, h) = (piece_end q one, all_ends ps h)

  -- the lines of a script's text are its lines
  pub text_lines : (bytes : List ℕ) (scripts : List (List Item)) → IsScriptText p bytes scripts → IsScript p (lines bytes) scripts
  text_lines bytes scripts is =
      let each = one_by_one p p.funs scripts is.spelled.one_each is.spelled.each in
      let spelled : AllSpelled p (script_pieces p.funs scripts) = (tt, funs_spelled p p.funs scripts (names_are_words p S) each) in
      record { spelled = is.spelled; same = ap lines is.same ∙ lines_of (piece_text p) (script_pieces p.funs scripts) (all_ends (script_pieces p.funs scripts) spelled) }
