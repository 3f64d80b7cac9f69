-- Lines that the reader on lists reads are the script of what it read, so that the first line at which it stops is the first
-- that no script has there.
use Rattle.std.proofs.Common.{◌≡◌, ◌==◌, ◌≤◌, ◌<◌, ◌+◌, ◌-◌, ℕ, zero, suc, Bool, true, false, List, [], ◌∷◌, ◌++◌, map, flat_map, length, Some, Result, Ok, Err, slice_get, refl, sym, ap, subst, ◌∙◌, append_assoc, length-append, arith, if◌then◌else◌, eqb-true}
use Rattle.mz_grammar.specs.Brackets.{no_brackets, room}
use Rattle.mz_grammar.specs.Reading.{Read, Wrong, Deep}
use Rattle.mz_grammar.specs.Relations.{OneToken}
use Rattle.mz_grammar.specs.Readers.{Any, Reads}
use Rattle.mz_grammar.specs.Answers.{Stopped, Unexpected, Too_deep, No_memory, Stops}
use Rattle.mz_grammar.specs.Contract.{IsRight}
use Rattle.mz_grammar.specs.Wholes.{Begins, BreaksAt, Fits, IsFirstWrong}
use Rattle.mz_grammar.specs.Promises.{whole, settled}
use Rattle.mz_grammar.proofs.NoBrackets.{never_deep, flat_is}
use Rattle.mz_grammar.proofs.WholeTexts.{is_sound, tells_first_wrong}
use Rattle.mz_tree.specs.Code.{Body, The_body, command_list, commands_in}
use Rattle.mz_tree.specs.Programs.{Fun, Program}
use Rattle.mz_tree.specs.Scoped.{Scoped}
use Rattle.mz_deriv.specs.Scripts.{Item}
use Rattle.mz_deriv.specs.Spelled.{Spelled}
use Rattle.mz_script.specs.Pieces.{Piece, Head_line, Fun_line, Step_line, Do_line, Case_line, Join_line, End_line, No_line, body_pieces, fun_pieces, script_pieces}
use Rattle.mz_script.specs.Lines.{line_of, PieceSpelled}
use Rattle.mz_script.specs.Cutting.{before_first, lines}
use Rattle.mz_script.specs.Texts.{IsScript, IsScriptText, IsWrongLine, script_lines, script_text}
use Rattle.mz_script.specs.Places.{heads, begins_fun, body_commands, line, same_name}
use Rattle.mz_script.specs.Reading.{script_by}
use Rattle.mz_script.specs.ReadLines.{piece_of}
use Rattle.mz_script.proofs.Format.{FunsText, ScriptText}
use Rattle.mz_script.proofs.Productions.{AllNamed, script_reads}
use Rattle.mz_script.proofs.LineKinds.{head_says}
use Rattle.mz_script.proofs.Naming.{same_text}
use Rattle.mz_script.proofs.ReadFronts.{names_same}
use Rattle.mz_script.proofs.Spelling.{Says, one_says, two_say, commands_spelled}
use Rattle.mz_script.proofs.Exact.{Worded, AllSpelled, FunsSpelled, funs_spelled, has_lines, names_are_words, script_spells, complete}
use Rattle.mz_script.proofs.NoEnds.{text_lines}
use Rattle.mz_script.proofs.SoundLines.{line_says, sayable}

fun_says : (name : List ℕ) (q : Piece) → begins_fun name q ≡ true → q ≡ Fun_line name
fun_says name (Fun_line other) e = ap Fun_line (sym (same_text name other (names_same name other ∙ e)))
fun_says name Head_line e = cc
fun_says name (Step_line s) e = cc
fun_says name (Do_line uses) e = cc
fun_says name (Case_line n) e = cc
fun_says name (Join_line atoms) e = cc
fun_says name End_line e = cc
fun_says name No_line e = cc

-- ---- lines and bytes

abbrev joined : List (List ℕ) → List ℕ
joined [] = []
joined (l ∷ ls) = l ++ joined ls

joined_first : (b : ℕ) (ls : List (List ℕ)) → joined (before_first b ls) ≡ b ∷ joined ls
joined_first b [] = refl
joined_first b (l ∷ ls) = refl

-- put together, the lines are the bytes
joined_lines : (bytes : List ℕ) → joined (lines bytes) ≡ bytes
joined_lines [] = refl
joined_lines (b ∷ bytes) = by_test (b == 10) refl (joined_lines bytes)
  where
    by_test : (t : Bool) → (b == 10) ≡ t → joined (lines bytes) ≡ bytes → joined (if t then (10 ∷ []) ∷ lines bytes else before_first b (lines bytes)) ≡ b ∷ bytes
    by_test true same h = ap (λ l. 10 ∷ l) h ∙ ap (λ c. c ∷ bytes) (sym (eqb-true b 10 same))
    by_test false other h = joined_first b (lines bytes) ∙ ap (λ l. b ∷ l) h

joined_map : {A : Type 0} (f : A → List ℕ) (xs : List A) → joined (map f xs) ≡ flat_map f xs
joined_map f [] = refl
joined_map f (x ∷ xs) = ap (λ l. f x ++ l) (joined_map f xs)

first_length : (b : ℕ) (ls : List (List ℕ)) → length (before_first b ls) ≤ suc (length ls)
first_length b [] = omega arith
first_length b (l ∷ ls) = omega arith

-- there are no more lines than bytes
pub few_lines : (bytes : List ℕ) → length (lines bytes) ≤ length bytes
few_lines [] = omega arith
few_lines (b ∷ bytes) = by_test (b == 10) (few_lines bytes)
  where
    by_test : (t : Bool) → length (lines bytes) ≤ length bytes → length (if t then (10 ∷ []) ∷ lines bytes else before_first b (lines bytes)) ≤ suc (length bytes)
    by_test true h = omega (arith, h)
    by_test false h = omega (arith, h, first_length b (lines bytes))

module _ (p : Program) where
  -- lines that say pieces which can be spelled are the lines of these
  lines_are : (ps : List Piece) (ts : List (List ℕ)) → AllSpelled p ps → Says (piece_of p) ts ps → ts ≡ map (line_of p) ps
  lines_are [] [] h says = refl
  lines_are [] (t ∷ ts) h says = cc
  lines_are (q ∷ ps) [] h says = cc
  lines_are (q ∷ ps) (t ∷ ts) (one, h) says =
      let here : piece_of p t ≡ q = cc in
      let others : Says (piece_of p) ts ps = cc in
      ap (λ l. l ∷ ts) (line_says p t q here (λ no. subst (PieceSpelled p) no one)).0 ∙ ap (λ l. line_of p q ∷ l) (lines_are ps ts h others)

  body_spelled : (body : Body) (script : List Item) → Spelled p (command_list (body_commands body)) script → Spelled p (commands_in body) script
  body_spelled (The_body all value place) script h = h

  funs_were : (funs : List Fun) (ts : List (List ℕ)) (scripts : List (List Item)) → FunsText (piece_of p) funs ts scripts → FunsSpelled p funs scripts × Says (piece_of p) ts (fun_pieces funs scripts)
  unfolding FunsText
  funs_were [] ts scripts (none, e) = subst (λ (l : List (List Item)). FunsSpelled p [] l × Says (piece_of p) ts (fun_pieces [] l)) (sym e) (tt, ap (map (piece_of p)) none)
  funs_were (f ∷ funs) ts scripts (t, x, y, e, one, (items, u, v, e2, text, (others, more, same))) =
      let body = commands_spelled p (piece_of p) (sayable p) (body_commands f.body) u items text in
      let rest = funs_were funs v others more in
      let said = one_says p (piece_of p) (sayable p) (begins_fun f.name) x t (Fun_line f.name) one (fun_says f.name (piece_of p t) one.1) in
      subst (λ (l : List (List Item)). FunsSpelled p (f ∷ funs) l × Says (piece_of p) ts (fun_pieces (f ∷ funs) l)) (sym same) (
        (body_spelled f.body items body.0, rest.0),
        two_say p (piece_of p) (sayable p) ts x y (Fun_line f.name ∷ []) (body_pieces items ++ fun_pieces funs others) e said (two_say p (piece_of p) (sayable p) y u v (body_pieces items) (fun_pieces funs others) e2 body.1 rest.1),
      )

  equally_many : (funs : List Fun) (scripts : List (List Item)) → FunsSpelled p funs scripts → length scripts ≡ length funs
  equally_many [] [] h = refl
  equally_many [] (s ∷ scripts) h = absurd h
  equally_many (f ∷ funs) [] h = absurd h
  equally_many (f ∷ funs) (s ∷ scripts) (one, h) = ap suc (equally_many funs scripts h)

  each_spelled : (funs : List Fun) (scripts : List (List Item)) → FunsSpelled p funs scripts → (k : ℕ) (f : Fun) (script : List Item) → slice_get funs k ≡ Some f → slice_get scripts k ≡ Some script → Spelled p (commands_in f.body) script
  each_spelled [] scripts h k f script i j = cc
  each_spelled (g ∷ funs) [] h k f script i j = cc
  each_spelled (g ∷ funs) (s ∷ scripts) (one, h) zero f script i j =
      let same : g ≡ f = cc in
      let equal : s ≡ script = cc in
      subst (λ (l : List Item). Spelled p (commands_in f.body) l) equal (subst (λ (c : Fun). Spelled p (commands_in c.body) s) same one)
  each_spelled (g ∷ funs) (s ∷ scripts) (one, h) (suc k) f script i j = each_spelled funs scripts h k f script i j

module _ (p : Program) (S : Scoped p) where
  -- what spells a derivation by lines is its script
  pub spells_script : (ts : List (List ℕ)) (scripts : List (List Item)) → ScriptText (piece_of p) p.funs ts scripts → IsScript p ts scripts
  spells_script ts scripts (t, x, y, e, one, text) =
      let rest = funs_were p p.funs y scripts text in
      let said = one_says p (piece_of p) (sayable p) heads x t Head_line one (head_says (piece_of p t) one.1) in
      let all = two_say p (piece_of p) (sayable p) ts x y (Head_line ∷ []) (fun_pieces p.funs scripts) e said rest.1 in
      let spelled : AllSpelled p (script_pieces p.funs scripts) = (tt, funs_spelled p p.funs scripts (names_are_words p S) rest.0) in
      record { spelled = record { one_each = equally_many p p.funs scripts rest.0; each = each_spelled p p.funs scripts rest.0 }; same = lines_are p (script_pieces p.funs scripts) ts spelled all }

  begins_script : (front : List (List ℕ)) → Begins (ScriptText (piece_of p) p.funs) front → Begins (IsScript p) front
  begins_script front (more, value, h) = (more, value, spells_script (front ++ more) value h)

  begins_text : (front : List (List ℕ)) → Begins (IsScript p) front → Begins (ScriptText (piece_of p) p.funs) front
  begins_text front (more, value, h) = (more, value, script_spells p S (front ++ more) value h)

  breaks_script : (front rest : List (List ℕ)) → BreaksAt (ScriptText (piece_of p) p.funs) front rest → BreaksAt (IsScript p) front rest
  breaks_script front [] h = λ value is. h value (script_spells p S front value is)
  breaks_script front (t ∷ rest) h = λ b. h (begins_text (front ++ t ∷ []) b)

  breaks_text : (front rest : List (List ℕ)) → BreaksAt (IsScript p) front rest → BreaksAt (ScriptText (piece_of p) p.funs) front rest
  breaks_text front [] h = λ value is. h value (spells_script front value is)
  breaks_text front (t ∷ rest) h = λ b. h (begins_script (front ++ t ∷ []) b)

  wrong_script : (ts : List (List ℕ)) (left : ℕ) → IsFirstWrong no_brackets 0 (ScriptText (piece_of p) p.funs) ts left → IsFirstWrong no_brackets 0 (IsScript p) ts left
  wrong_script ts left w = record { front = w.front; rest = w.rest; split = w.split; count = w.count; before = begins_script w.front w.before; fits = w.fits; breaks = breaks_script w.front w.rest w.breaks }

  wrong_text : (ts : List (List ℕ)) (left : ℕ) → IsFirstWrong no_brackets 0 (IsScript p) ts left → IsFirstWrong no_brackets 0 (ScriptText (piece_of p) p.funs) ts left
  wrong_text ts left w = record { front = w.front; rest = w.rest; split = w.split; count = w.count; before = begins_text w.front w.before; fits = w.fits; breaks = breaks_text w.front w.rest w.breaks }

  -- ---- what the reader on lists answers for whole scripts

  reads : Reads no_brackets (script_by (piece_of p) p.funs) (ScriptText (piece_of p) p.funs) Any 0 0
  reads = script_reads (piece_of p) Worded (has_lines p S) p.funs (names_are_words p S)

  right : (ts : List (List ℕ)) → IsRight no_brackets 0 (ScriptText (piece_of p) p.funs) (λ stopped. stopped) ts (whole (script_by (piece_of p) p.funs) ts)
  right ts = is_sound {F = Any} reads tt ts

  -- it reads all
  pub read_all : (ts : List (List ℕ)) (scripts : List (List Item)) → script_by (piece_of p) p.funs ts ≡ Ok (scripts, []) → IsScript p ts scripts
  read_all ts scripts e = spells_script ts scripts (subst (λ r. IsRight no_brackets 0 (ScriptText (piece_of p) p.funs) (λ stopped. stopped) ts (settled r)) e (right ts)).0

  -- it leaves some lines
  pub read_less : (ts rest : List (List ℕ)) (scripts : List (List Item)) → (rest ≡ [] → ⊥) → script_by (piece_of p) p.funs ts ≡ Ok (scripts, rest) → IsFirstWrong no_brackets 0 (IsScript p) ts (length rest)
  read_less ts [] scripts some e = absurd (some refl)
  read_less ts (t ∷ rest) scripts some e = wrong_script ts (length (t ∷ rest)) (subst (λ r. IsRight no_brackets 0 (ScriptText (piece_of p) p.funs) (λ stopped. stopped) ts (settled r)) e (right ts))

  -- it stops
  pub read_wrong : (ts rest : List (List ℕ)) → script_by (piece_of p) p.funs ts ≡ Err (Wrong rest) → IsFirstWrong no_brackets 0 (IsScript p) ts (length rest)
  read_wrong ts rest e = wrong_script ts (length rest) (subst (λ r. IsRight no_brackets 0 (ScriptText (piece_of p) p.funs) (λ stopped. stopped) ts (settled r)) e (right ts))

  -- ---- and for bytes

  pub text_of_lines : (bytes : List ℕ) (scripts : List (List Item)) → IsScript p (lines bytes) scripts → IsScriptText p bytes scripts
  text_of_lines bytes scripts is = record { spelled = is.spelled; same = sym (joined_lines bytes) ∙ ap joined is.same ∙ joined_map (line_of p) (script_pieces p.funs scripts) }

  pub wrong_line : (bytes : List ℕ) (left n : ℕ) → IsFirstWrong no_brackets 0 (IsScript p) (lines bytes) left → n ≡ (length (lines bytes) - left) + 1 → IsWrongLine p bytes n
  wrong_line bytes left n w e =
      let within : left ≤ length (lines bytes) = omega (arith, w.count, ap length w.split, length-append w.front w.rest) in
      record { left = left; first = w; number = omega (arith, e, within) }

  -- no text has a wrong line, and it has one alone
  pub no_wrong_line : (bytes : List ℕ) (scripts : List (List Item)) (n : ℕ) → IsScriptText p bytes scripts → IsWrongLine p bytes n → ⊥
  no_wrong_line bytes scripts n is w =
      let ok = complete p S (lines bytes) scripts (text_lines p S bytes scripts is) in
      let bad = tells_first_wrong {F = Any} reads tt (lines bytes) w.left (wrong_text (lines bytes) w.left w.first) in
      differ scripts w.left (sym ok ∙ bad)
    where
      differ : (a : List (List Item)) (k : ℕ) → ◌≡◌ {A = Result (List (List Item)) Stopped} (Ok a) (Err (Unexpected k)) → ⊥
      differ a k e = cc

  pub one_wrong_line : (bytes : List ℕ) (m n : ℕ) → IsWrongLine p bytes m → IsWrongLine p bytes n → m ≡ n
  one_wrong_line bytes m n one two =
      let same = sym (tells_first_wrong {F = Any} reads tt (lines bytes) one.left (wrong_text (lines bytes) one.left one.first)) ∙ tells_first_wrong {F = Any} reads tt (lines bytes) two.left (wrong_text (lines bytes) two.left two.first) in
      omega (arith, equal one.left two.left same, one.number, two.number)
    where
      equal : (j k : ℕ) → ◌≡◌ {A = Result (List (List Item)) Stopped} (Err (Unexpected j)) (Err (Unexpected k)) → j ≡ k
      equal j k e = cc
