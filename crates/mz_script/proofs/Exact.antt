-- What holds of whole scripts: the lines of one are read as its derivation, so that a script spells one derivation.
use Rattle.std.proofs.Common.{◌≡◌, ◌==◌, ℕ, suc, Bool, true, false, List, [], ◌∷◌, ◌++◌, map, length, Some, None, Result, Ok, slice_get, refl, sym, ap, subst, ◌∙◌, arith, rules}
use Rattle.std.specs.List.{list_all}
use Rattle.mz_grammar.specs.Brackets.{no_brackets}
use Rattle.mz_grammar.specs.Promises.{whole}
use Rattle.mz_grammar.specs.Readers.{Any}
use Rattle.mz_grammar.specs.Answers.{Stopped}
use Rattle.mz_grammar.proofs.NoBrackets.{all_fit, flat_is}
use Rattle.mz_grammar.proofs.WholeTexts.{is_complete}
use Rattle.mz_tree.specs.Bytes.{is_name_byte}
use Rattle.mz_tree.specs.Plain.{Atom}
use Rattle.mz_tree.specs.Code.{Body, Commands, Command, The_body, commands_in}
use Rattle.mz_tree.specs.Programs.{Fun, Program}
use Rattle.mz_tree.specs.Scoped.{Scoped, Each}
use Rattle.mz_tree.proofs.Chains.{commands_of_list}
use Rattle.mz_view.specs.Steps.{Unknown_step}
use Rattle.mz_deriv.specs.Scripts.{Item, ItemChain, ScriptCases, No_script_cases, More_script_cases}
use Rattle.mz_deriv.specs.Spelled.{IsNumber, IsWritable, Spelled, Spelled_end, Spelled_step, Spelled_do, Spelled_branches, CasesSpelled, Cases_end, Case_spelled, NumberFits}
use Rattle.mz_script.specs.Pieces.{Piece, Head_line, Fun_line, Step_line, Do_line, Case_line, Join_line, End_line, chain_pieces, case_pieces, join_pieces, body_pieces, fun_pieces, script_pieces}
use Rattle.mz_script.specs.Lines.{line_of, PieceSpelled}
use Rattle.mz_script.specs.Texts.{IsScript}
use Rattle.mz_script.specs.Places.{heads, begins_fun, steps, does, cases, joins, ends, same_name, body_commands}
use Rattle.mz_script.specs.Reading.{script_by}
use Rattle.mz_script.specs.ReadLines.{piece_of}
use Rattle.mz_script.proofs.Format.{CommandsText, FunsText, ScriptText}
use Rattle.mz_script.proofs.Productions.{HasLines, AllNamed, script_reads}
use Rattle.mz_script.proofs.Spelling.{Says, each_none}
use Rattle.mz_script.proofs.Spoken.{FirstLine, first_line, no_line, Parts, parts, chain_back, commands_text}
use Rattle.mz_script.proofs.Casing.{HasCases, BodyCases, fun_cases}
use Rattle.mz_script.proofs.LineTexts.{piece_is}
use Rattle.mz_script.proofs.ProgramNames.{own_names, lower_names}

-- a name that is a word
abbrev pub Worded : List ℕ → Type 0
Worded name = list_all is_name_byte name ≡ true

-- ---- the pieces of what has the form of a script can be spelled

module _ (p : Program) where
  abbrev pub AllSpelled : List Piece → Type 0
  AllSpelled [] = Unit {0}
  AllSpelled (q ∷ ps) = PieceSpelled p q × AllSpelled ps

  all_append : (ps qs : List Piece) → AllSpelled ps → AllSpelled qs → AllSpelled (ps ++ qs)
  all_append [] qs h g = g
  all_append (q ∷ ps) qs (one, h) g = (one, all_append ps qs h g)

  join_spelled : (cs : ScriptCases) (join : List (Atom ℕ)) → Each (λ _ a. IsWritable p a) join → AllSpelled (join_pieces cs join)
  join_spelled No_script_cases join h = tt
  join_spelled (More_script_cases c rest) join h = (h, tt)

  number_spelled : (numbered : Bool) (n : ℕ) → NumberFits numbered n → IsNumber n
  number_spelled true n h = h
  number_spelled false n h = omega (arith, h)

  mutual
    pub pieces_spelled : {commands : List Command} {items : List Item} → Spelled p commands items → AllSpelled (body_pieces items)
    pieces_spelled Spelled_end = (tt, tt)
    pieces_spelled (Spelled_step s h) = (s, pieces_spelled h)
    pieces_spelled (Spelled_do flat w h) = (w, pieces_spelled h)
    pieces_spelled (Spelled_branches {cases = cs} {join = join} {items = items} branches w j walked h) =
        (w, all_append (case_pieces cs) (join_pieces cs join ++ body_pieces items) (cases_spelled walked) (all_append (join_pieces cs join) (body_pieces items) (join_spelled cs join j) (pieces_spelled h)))

    cases_spelled : {numbered : Bool} {bodies : List Body} {cs : ScriptCases} → CasesSpelled p numbered bodies cs → AllSpelled (case_pieces cs)
    cases_spelled Cases_end = tt
    cases_spelled (Case_spelled {numbered = numbered} {fresh = fresh} {items = items} {cases = cs} fits h more) =
        (number_spelled numbered fresh fits, all_append (chain_pieces items) (case_pieces cs) (subst (λ (c : ItemChain). AllSpelled (chain_pieces c)) (chain_back items) (pieces_spelled h)) (cases_spelled more))

  -- ---- functions one by one

  abbrev pub FunsSpelled : List Fun → List (List Item) → Type 0
  FunsSpelled [] [] = Unit {0}
  FunsSpelled [] (script ∷ scripts) = ⊥
  FunsSpelled (f ∷ funs) [] = ⊥
  FunsSpelled (f ∷ funs) (script ∷ scripts) = Spelled p (commands_in f.body) script × FunsSpelled funs scripts

  pub one_by_one : (funs : List Fun) (scripts : List (List Item)) → length scripts ≡ length funs → ((k : ℕ) (f : Fun) (script : List Item) → slice_get funs k ≡ Some f → slice_get scripts k ≡ Some script → Spelled p (commands_in f.body) script) → FunsSpelled funs scripts
  one_by_one [] [] same each = tt
  one_by_one [] (script ∷ scripts) same each = absurd (omega (arith, same))
  one_by_one (f ∷ funs) [] same each = absurd (omega (arith, same))
  one_by_one (f ∷ funs) (script ∷ scripts) same each = (each 0 f script refl refl, one_by_one funs scripts (omega (arith, same)) (λ k g s i j. each (suc k) g s i j))

  abbrev pub FunsCases : List Fun → Type 0
  FunsCases [] = Unit {0}
  FunsCases (f ∷ funs) = BodyCases f.body × FunsCases funs

  cases_each : (funs : List Fun) → ((k : ℕ) (f : Fun) → slice_get funs k ≡ Some f → BodyCases f.body) → FunsCases funs
  cases_each [] h = tt
  cases_each (f ∷ funs) h = (h 0 f refl, cases_each funs (λ k g e. h (suc k) g e))

  pub named_each : (funs : List Fun) → ((k : ℕ) (f : Fun) → slice_get funs k ≡ Some f → Worded f.name) → AllNamed Worded funs
  named_each [] h = tt
  named_each (f ∷ funs) h = (h 0 f refl, named_each funs (λ k g e. h (suc k) g e))

  pub funs_spelled : (funs : List Fun) (scripts : List (List Item)) → AllNamed Worded funs → FunsSpelled funs scripts → AllSpelled (fun_pieces funs scripts)
  funs_spelled [] [] named h = tt
  funs_spelled [] (script ∷ scripts) named h = tt
  funs_spelled (f ∷ funs) [] named h = tt
  funs_spelled (f ∷ funs) (script ∷ scripts) (word, named) (one, h) = (word, all_append (body_pieces script) (fun_pieces funs scripts) (pieces_spelled one) (funs_spelled funs scripts named h))

-- ---- a program that was read

same_name_is : (name : List ℕ) → same_name name name ≡ true
same_name_is [] = refl
same_name_is (b ∷ name) = rw (byte_itself b) (same_name_is name)
  where
    byte_itself : (b : ℕ) → (b == b) ≡ true
    byte_itself b = search rules

module _ (p : Program) (S : Scoped p) where
  says_lines : (ps : List Piece) → AllSpelled p ps → Says (piece_of p) (map (line_of p) ps) ps
  says_lines [] h = refl
  says_lines (q ∷ ps) (one, h) = ap (λ r. r ∷ map (piece_of p) (map (line_of p) ps)) (piece_is p (own_names p S) q one) ∙ ap (λ l. q ∷ l) (says_lines ps h)

  -- there is a line of each kind
  pub has_lines : HasLines (piece_of p) Worded
  has_lines =
      let N = own_names p S in
      record {
        head_line = line_of p Head_line;
        head_is = ap heads (piece_is p N Head_line tt);
        fun_line = λ name. line_of p (Fun_line name);
        fun_is = λ name word. ap (begins_fun name) (piece_is p N (Fun_line name) word) ∙ same_name_is name;
        step_line = line_of p (Step_line (Unknown_step 0));
        step_is = ap steps (piece_is p N (Step_line (Unknown_step 0)) (omega arith));
        do_line = line_of p (Do_line None);
        do_is = ap does (piece_is p N (Do_line None) tt);
        case_line = line_of p (Case_line 0);
        case_is = λ numbered. ap (cases numbered) (piece_is p N (Case_line 0) (omega arith)) ∙ zero_fits numbered;
        join_line = line_of p (Join_line []);
        join_is = ap joins (piece_is p N (Join_line []) (each_none (λ _ a. IsWritable p a)));
        end_line = line_of p End_line;
        end_is = ap ends (piece_is p N End_line tt);
      }
    where
      zero_fits : (numbered : Bool) → cases numbered (Case_line 0) ≡ true
      zero_fits true = refl
      zero_fits false = refl

  pub names_are_words : AllNamed Worded p.funs
  names_are_words = named_each p p.funs (λ k f e. lower_names f.name (S.funs k f e).name)

  body_text : (body : Body) (script : List Item) (ts : List (List ℕ)) → Spelled p (commands_in body) script → BodyCases body → Says (piece_of p) ts (body_pieces script) → CommandsText (piece_of p) (body_commands body) ts script
  body_text (The_body all value place) script ts h has says =
      subst (λ (c : Commands). CommandsText (piece_of p) c ts script) (commands_of_list all) (commands_text p (piece_of p) h (subst HasCases (sym (commands_of_list all)) has) ts says)

  funs_text : (funs : List Fun) (scripts : List (List Item)) (ts : List (List ℕ)) → FunsSpelled p funs scripts → FunsCases p funs → Says (piece_of p) ts (fun_pieces funs scripts) → FunsText (piece_of p) funs ts scripts
  unfolding FunsText
  funs_text [] [] ts h has says = (no_line p (piece_of p) ts says, refl)
  funs_text [] (script ∷ scripts) ts h has says = absurd h
  funs_text (f ∷ funs) [] ts h has says = absurd h
  funs_text (f ∷ funs) (script ∷ scripts) ts (here, h) (one_has, has) says =
      let one : FirstLine p (piece_of p) ts (Fun_line f.name) (body_pieces script ++ fun_pieces funs scripts) = first_line p (piece_of p) ts (Fun_line f.name) (body_pieces script ++ fun_pieces funs scripts) says in
      let two : Parts p (piece_of p) one.rest (body_pieces script) (fun_pieces funs scripts) = parts p (piece_of p) (body_pieces script) (fun_pieces funs scripts) one.rest one.others in (
        one.t,
        one.t ∷ [],
        one.rest,
        one.split,
        (refl, ap (begins_fun f.name) one.says ∙ same_name_is f.name),
        (script, two.x, two.y, two.split, body_text f.body script two.x here one_has two.front, (scripts, funs_text funs scripts two.y h has two.back, refl)),
      )

  -- the lines of a derivation's script spell it
  pub script_spells : (ts : List (List ℕ)) (scripts : List (List Item)) → IsScript p ts scripts → ScriptText (piece_of p) p.funs ts scripts
  script_spells ts scripts is =
      let each = one_by_one p p.funs scripts is.spelled.one_each is.spelled.each in
      let spelled : AllSpelled p (script_pieces p.funs scripts) = (tt, funs_spelled p p.funs scripts names_are_words each) in
      let says : Says (piece_of p) ts (script_pieces p.funs scripts) = ap (map (piece_of p)) is.same ∙ says_lines (script_pieces p.funs scripts) spelled in
      let one : FirstLine p (piece_of p) ts Head_line (fun_pieces p.funs scripts) = first_line p (piece_of p) ts Head_line (fun_pieces p.funs scripts) says in
      (one.t, one.t ∷ [], one.rest, one.split, (refl, ap heads one.says), funs_text p.funs scripts one.rest each (cases_each p p.funs (fun_cases p S)) one.others)

  -- so the reader on lists reads it
  pub complete : (ts : List (List ℕ)) (scripts : List (List Item)) → IsScript p ts scripts → whole (script_by (piece_of p) p.funs) ts ≡ Ok scripts
  complete ts scripts is =
      is_complete {F = Any} (script_reads (piece_of p) Worded has_lines p.funs names_are_words) tt ts scripts (script_spells ts scripts is) (all_fit no_brackets flat_is 0 ts)

  -- and lines are the script of one derivation
  pub one_derivation : (ts : List (List ℕ)) (a b : List (List Item)) → IsScript p ts a → IsScript p ts b → a ≡ b
  one_derivation ts a b one two = same a b (sym (complete ts a one) ∙ complete ts b two)
    where
      same : (a b : List (List Item)) → ◌≡◌ {A = Result (List (List Item)) Stopped} (Ok a) (Ok b) → a ≡ b
      same a b e = cc
