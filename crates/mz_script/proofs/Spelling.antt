-- A text of a body spells what has the form of a script for it, and its lines are those of the script.
use Rattle.std.proofs.Common.{◌≡◌, ◌==◌, ℕ, Bool, true, false, List, [], ◌∷◌, ◌++◌, map, Option, Some, None, IfSome, refl, sym, ap, subst, ◌∙◌, append_assoc, append-nil, if◌then◌else◌}
use Rattle.std.proofs.lemmas.Bool.{eqb-true}
use Rattle.mz_grammar.specs.Relations.{OneToken, Then, Image, Cases as Chosen}
use Rattle.mz_tree.specs.Plain.{Atom, Has_atom, Same_atom, Int_type, Unknown_type, Dynamic_type, Locked_type, Named_type, Function_type, Block_type, Lock_type}
use Rattle.mz_tree.specs.Code.{Op, Command, Commands, Case, Cases, Body, The_command, No_commands, More_commands, The_case, No_cases, More_cases, The_body, If_op, Match_op, Int_op, Unit_op, Fun_op, Copy_op, Arith_op, New_op, Read_op, Write_op, Retag_op, Call_op, Give_op, Take_op, New_lock_op, Acquire_op, Release_op, Spawn_op, Print_op, command_list, case_list, body_of, op_of, op_branches}
use Rattle.mz_tree.specs.Programs.{Program}
use Rattle.mz_tree.specs.Scoped.{Each}
use Rattle.mz_view.specs.Steps.{Step}
use Rattle.mz_flow.specs.Branches.{cases_at, known_cases, walked_cases, walked_bodies}
use Rattle.mz_deriv.specs.Scripts.{Item, Do_item, ScriptCase, ScriptCases, Script_case, No_script_cases, More_script_cases, items_of, item_list}
use Rattle.mz_deriv.specs.Spelled.{IsWritable, Spelled, Spelled_end, Spelled_step, Spelled_do, Spelled_branches, CasesSpelled, Cases_end, Case_spelled, NumberFits, has_number}
use Rattle.mz_script.specs.Pieces.{Piece, Head_line, Fun_line, Step_line, Do_line, Case_line, Join_line, End_line, No_line, chain_pieces, case_pieces, join_pieces, body_pieces}
use Rattle.mz_script.specs.Lines.{PieceSpelled}
use Rattle.mz_script.specs.Places.{steps, does, cases, joins, ends, number_in, Walked, All_cases, Of_con, known_if, walked_by, seen, line}
use Rattle.mz_script.proofs.Format.{StepsText, JoinLineText, JoinText, CommandsText, OpText, CaseText, CasesText}
use Rattle.mz_script.proofs.LineKinds.{step_says, do_says, join_says, end_says, case_says}

-- ---- lists

pub map_append : {A B : Type 0} (f : A → B) (x y : List A) → map f (x ++ y) ≡ map f x ++ map f y
map_append f [] y = refl
map_append f (a ∷ x) y = ap (λ l. f a ∷ l) (map_append f x y)

back_items : (items : List Item) → item_list (items_of items) ≡ items
back_items [] = refl
back_items (i ∷ items) = ap (λ l. i ∷ l) (back_items items)

-- ---- the cases that are walked

-- the cases that a script walks, as a list
abbrev pub filtered : Walked → List Case → List Case
filtered All_cases all = all
filtered (Of_con con) all = cases_at con all

pub known_is : (con : ℕ) (all known : List Case) → known ≡ cases_at con all → walked_cases all known ≡ filtered (known_if con known) all
known_is con all [] e = refl
known_is con all (c ∷ known) e = e

pub walked_is : (uses : Option (Atom ℕ)) (all : Cases) → walked_cases (case_list all) (known_cases uses (case_list all)) ≡ filtered (walked_by uses all) (case_list all)
walked_is None all = refl
walked_is (Some (Same_atom x y)) all = refl
walked_is (Some (Has_atom x Int_type)) all = refl
walked_is (Some (Has_atom x Unknown_type)) all = refl
walked_is (Some (Has_atom x Dynamic_type)) all = refl
walked_is (Some (Has_atom x Locked_type)) all = refl
walked_is (Some (Has_atom x (Named_type d))) all = refl
walked_is (Some (Has_atom x (Function_type g))) all = refl
walked_is (Some (Has_atom x (Lock_type p))) all = refl
walked_is (Some (Has_atom x (Block_type con fields adopts))) all = known_is con (case_list all) (cases_at con (case_list all)) refl

-- ---- lines of cases

one_more : (c : ScriptCase) (others : ScriptCases) → case_pieces (More_script_cases c No_script_cases) ++ case_pieces others ≡ case_pieces (More_script_cases c others)
one_more (Script_case n items) others = ap (λ l. Case_line n ∷ (l ++ case_pieces others)) (append-nil (chain_pieces items))

both_cases : (c d : ScriptCase) (ps : List Piece) → case_pieces (More_script_cases c No_script_cases) ++ (case_pieces (More_script_cases d No_script_cases) ++ ps) ≡ case_pieces (More_script_cases c (More_script_cases d No_script_cases)) ++ ps
both_cases c d ps = sym (append_assoc (case_pieces (More_script_cases c No_script_cases)) (case_pieces (More_script_cases d No_script_cases)) ps) ∙ ap (λ l. l ++ ps) (one_more c (More_script_cases d No_script_cases))

-- nothing has no member
pub each_none : {A : Type 0} (P : ℕ → A → Type 0) → Each P []
each_none P k a e = cc

-- what a line says can be spelled, unless it is no line of the format
abbrev pub Sayable : Program → Piece → Type 0
Sayable p Head_line = PieceSpelled p Head_line
Sayable p (Fun_line name) = PieceSpelled p (Fun_line name)
Sayable p (Step_line s) = PieceSpelled p (Step_line s)
Sayable p (Do_line uses) = PieceSpelled p (Do_line uses)
Sayable p (Case_line n) = PieceSpelled p (Case_line n)
Sayable p (Join_line atoms) = PieceSpelled p (Join_line atoms)
Sayable p End_line = PieceSpelled p End_line
Sayable p No_line = Unit {0}

-- ---- steps

pieces_seen : (ss : List Step) (items : List Item) → body_pieces (seen ss items) ≡ map Step_line ss ++ body_pieces items
pieces_seen [] items = refl
pieces_seen (s ∷ ss) items = ap (λ l. Step_line s ∷ l) (pieces_seen ss items)

number_fits : (p : Program) (numbered : Bool) (q : Piece) → cases numbered q ≡ true → Sayable p q → NumberFits numbered (number_in q)
number_fits p true (Case_line n) e h = h
number_fits p true Head_line e h = cc
number_fits p true (Fun_line name) e h = cc
number_fits p true (Step_line s) e h = cc
number_fits p true (Do_line uses) e h = cc
number_fits p true (Join_line atoms) e h = cc
number_fits p true End_line e h = cc
number_fits p true No_line e h = cc
number_fits p false (Case_line n) e h = eqb-true n 0 e
number_fits p false Head_line e h = cc
number_fits p false (Fun_line name) e h = cc
number_fits p false (Step_line s) e h = cc
number_fits p false (Do_line uses) e h = cc
number_fits p false (Join_line atoms) e h = cc
number_fits p false End_line e h = cc
number_fits p false No_line e h = cc

-- these lines say so
abbrev pub Says : {T : Type 0} → (T → Piece) → List T → List Piece → Type 0
Says piece ts ps = map piece ts ≡ ps

module _ (p : Program) {T : Type 0} (piece : T → Piece) (sayable : (t : T) → Sayable p (piece t)) where
  -- one line
  pub one_says : (kind : Piece → Bool) (ts : List T) (t : T) (q : Piece) → OneToken (line piece kind) ts t → piece t ≡ q → Says piece ts (q ∷ [])
  one_says kind ts t q (e, is) says = ap (map piece) e ∙ ap (λ r. r ∷ []) says

  -- two fronts
  pub two_say : (ts x y : List T) (ps qs : List Piece) → ts ≡ x ++ y → Says piece x ps → Says piece y qs → Says piece ts (ps ++ qs)
  two_say ts x y ps qs e one two = ap (map piece) e ∙ map_append piece x y ∙ ap (λ l. l ++ map piece y) one ∙ ap (λ l. ps ++ l) two

  steps_say : (ts : List T) (ss : List Step) → StepsText piece ts ss → Says piece ts (map Step_line ss)
  steps_say ts [] e = ap (map piece) e
  steps_say ts (s ∷ ss) (x, y, e, (t, one, same), more) =
      two_say ts x y (Step_line s ∷ []) (map Step_line ss) e (one_says steps x t (Step_line s) one (step_says (piece t) one.1 ∙ ap Step_line (sym same))) (steps_say y ss more)

  -- steps before what is spelled
  spelled_seen : (ts : List T) (ss : List Step) (commands : List Command) (items : List Item) → StepsText piece ts ss → Spelled p commands items → Spelled p commands (seen ss items)
  spelled_seen ts [] commands items some h = h
  spelled_seen ts (s ∷ ss) commands items (x, y, e, (t, one, same), more) h =
      Spelled_step (subst (Sayable p) (step_says (piece t) one.1 ∙ ap Step_line (sym same)) (sayable t)) (spelled_seen y ss commands items more h)

  join_line_says : (ts : List T) (join : List (Atom ℕ)) → JoinLineText piece ts join → Says piece ts (Join_line join ∷ [])
  join_line_says ts join (t, one, same) = one_says joins ts t (Join_line join) one (join_says (piece t) one.1 ∙ ap Join_line (sym same))

  join_line_spelled : (ts : List T) (join : List (Atom ℕ)) → JoinLineText piece ts join → Each (λ _ a. IsWritable p a) join
  join_line_spelled ts join (t, one, same) = subst (Sayable p) (join_says (piece t) one.1 ∙ ap Join_line (sym same)) (sayable t)

  join_text_says : (cs : ScriptCases) (ts : List T) (join : List (Atom ℕ)) → JoinText piece cs ts join → Each (λ _ a. IsWritable p a) join × Says piece ts (join_pieces cs join)
  join_text_says No_script_cases ts join (none, e) = (subst (λ l. Each (λ _ a. IsWritable p a) l) (sym e) (each_none (λ _ a. IsWritable p a)), ap (map piece) none)
  join_text_says (More_script_cases c rest) ts join h = (join_line_spelled ts join h, join_line_says ts join h)

  -- what a `do` brings
  record Brings (op : Op) (uses : Option (Atom ℕ)) (ts : List T) (b : ScriptCases × List (Atom ℕ)) : Type 0 where
    says : Says piece ts (case_pieces b.0 ++ join_pieces b.0 b.1)
    item : (c : Command) (commands : List Command) (items : List Item) → op_of c ≡ op → IfSome uses (IsWritable p) → Spelled p commands items → Spelled p (c ∷ commands) (Do_item uses b.0 b.1 ∷ items)

  plain_brings : (op : Op) (uses : Option (Atom ℕ)) (ts : List T) (b : ScriptCases × List (Atom ℕ)) → op_branches op ≡ false → (ts ≡ []) × (b ≡ (No_script_cases, [])) → Brings op uses ts b
  plain_brings op uses ts b flat (none, same) =
      subst (λ (v : ScriptCases × List (Atom ℕ)). Brings op uses ts v) (sym same)
      record { says = ap (map piece) none; item = λ c commands items e w h. Spelled_do (ap op_branches e ∙ flat) w h }

  branch_item : (c : Command) (op : Op) (uses : Option (Atom ℕ)) (cs : ScriptCases) (join : List (Atom ℕ)) (commands : List Command) (items : List Item) → op_of c ≡ op → op_branches op ≡ true →
      CasesSpelled p (has_number op uses) (walked_bodies op uses) cs → Each (λ _ a. IsWritable p a) join → IfSome uses (IsWritable p) → Spelled p commands items → Spelled p (c ∷ commands) (Do_item uses cs join ∷ items)
  branch_item c op uses cs join commands items e branches walked joined w h =
      Spelled_branches (ap op_branches e ∙ branches) w joined (subst (λ (o : Op). CasesSpelled p (has_number o uses) (walked_bodies o uses) cs) (sym e) walked) h

  no_case : (numbered : Bool) (walked : Walked) → CasesSpelled p numbered (map body_of (filtered walked [])) No_script_cases
  no_case numbered All_cases = Cases_end
  no_case numbered (Of_con con) = Cases_end

  -- the case of a constructor that is known, or another
  by_con : (numbered : Bool) (known con : ℕ) (body : Body) (rest : Cases) (ts : List T) (cs : ScriptCases) (b : Bool) →
      ((x : List T) (c : ScriptCase) → CaseText piece numbered body x c → ((bodies : List Body) (ds : ScriptCases) → CasesSpelled p numbered bodies ds → CasesSpelled p numbered (body ∷ bodies) (More_script_cases c ds)) × Says piece x (case_pieces (More_script_cases c No_script_cases))) →
      ((y : List T) (ds : ScriptCases) → CasesText piece numbered (Of_con known) rest y ds → CasesSpelled p numbered (map body_of (cases_at known (case_list rest))) ds × Says piece y (case_pieces ds)) →
      Chosen b (Then (CaseText piece numbered body) (λ c. Image (λ d. More_script_cases c d) (CasesText piece numbered (Of_con known) rest))) (CasesText piece numbered (Of_con known) rest) ts cs →
      CasesSpelled p numbered (map body_of (if b then The_case con body ∷ cases_at known (case_list rest) else cases_at known (case_list rest))) cs × Says piece ts (case_pieces cs)
  by_con numbered known con body rest ts cs true one_case rest_cases (c, x, y, e, one, (others, more, same)) =
      let first = one_case x c one in
      let behind = rest_cases y others more in
      subst (λ (d : ScriptCases). CasesSpelled p numbered (body ∷ map body_of (cases_at known (case_list rest))) d × Says piece ts (case_pieces d)) (sym same)
      (first.0 (map body_of (cases_at known (case_list rest))) others behind.0, two_say ts x y (case_pieces (More_script_cases c No_script_cases)) (case_pieces others) e first.1 behind.1 ∙ one_more c others)
  by_con numbered known con body rest ts cs false one_case rest_cases h = rest_cases ts cs h

  mutual
    unfolding CommandsText

    pub commands_spelled : (all : Commands) (ts : List T) (items : List Item) → CommandsText piece all ts items → Spelled p (command_list all) items × Says piece ts (body_pieces items)
    commands_spelled No_commands ts items (ss, x, y, e, some, (t, one, same)) =
        subst (λ (l : List Item). Spelled p [] l × Says piece ts (body_pieces l)) (sym same) (
          spelled_seen x ss [] [] some Spelled_end,
          two_say ts x y (map Step_line ss) (End_line ∷ []) e (steps_say x ss some) (one_says ends y t End_line one (end_says (piece t) one.1)) ∙ sym (pieces_seen ss []),
        )
    commands_spelled (More_commands (The_command to op place) rest) ts items (ss, x, y, e, some, (uses, v, w, f, (t, one, is), (b, q, r, g, brings, (others, more, same)))) =
        let it : Brings op uses q b = op_spelled op uses q b brings in
        let behind = commands_spelled rest r others more in
        let here : List Item = Do_item uses b.0 b.1 ∷ others in
        subst (λ (l : List Item). Spelled p (The_command to op place ∷ command_list rest) l × Says piece ts (body_pieces l)) (sym same) (
          spelled_seen x ss (The_command to op place ∷ command_list rest) here some
              (it.item (The_command to op place) (command_list rest) others refl (subst (Sayable p) (do_says (piece t) one.1 ∙ ap Do_line (sym is)) (sayable t)) behind.0),
          two_say ts x y (map Step_line ss) (body_pieces here) e (steps_say x ss some)
              (two_say y v w (Do_line uses ∷ []) (case_pieces b.0 ++ (join_pieces b.0 b.1 ++ body_pieces others)) f (one_says does v t (Do_line uses) one (do_says (piece t) one.1 ∙ ap Do_line (sym is)))
              (two_say w q r (case_pieces b.0 ++ join_pieces b.0 b.1) (body_pieces others) g it.says behind.1 ∙ append_assoc (case_pieces b.0) (join_pieces b.0 b.1) (body_pieces others)))
              ∙ sym (pieces_seen ss here),
        )

    op_spelled : (op : Op) (uses : Option (Atom ℕ)) (ts : List T) (b : ScriptCases × List (Atom ℕ)) → OpText piece op uses ts b → Brings op uses ts b
    op_spelled (If_op test on_true on_false giving) uses ts b (yes_case, x, y, e, one, (no_case, v, w, f, two, (join, j, same))) =
        let first = case_spelled false on_true x yes_case one in
        let second = case_spelled false on_false v no_case two in
        subst (λ (z : ScriptCases × List (Atom ℕ)). Brings (If_op test on_true on_false giving) uses ts z) (sym same)
        record {
          says = two_say ts x y (case_pieces (More_script_cases yes_case No_script_cases)) (case_pieces (More_script_cases no_case No_script_cases) ++ (Join_line join ∷ [])) e first.1 (two_say y v w _ (Join_line join ∷ []) f second.1 (join_line_says w join j)) ∙ both_cases yes_case no_case (Join_line join ∷ []);
          item = λ c commands items e w h. branch_item c (If_op test on_true on_false giving) uses _ join commands items e refl (first.0 (on_false ∷ []) _ (second.0 [] _ Cases_end)) (join_line_spelled _ join j) w h;
        }
    op_spelled (Match_op block data_type all giving) uses ts b (cs, x, y, e, some, (join, j, same)) =
        let numbered : Bool = has_number (Match_op block data_type all giving) uses in
        let walked = cases_spelled numbered (walked_by uses all) all x cs some in
        let joined = join_text_says cs y join j in
        subst (λ (z : ScriptCases × List (Atom ℕ)). Brings (Match_op block data_type all giving) uses ts z) (sym same)
        record {
          says = two_say ts x y (case_pieces cs) (join_pieces cs join) e walked.1 joined.1;
          item = λ c commands items e w h. branch_item c (Match_op block data_type all giving) uses cs join commands items e refl
              (subst (λ (l : List Case). CasesSpelled p numbered (map body_of l) cs) (sym (walked_is uses all)) walked.0) joined.0 w h;
        }
    op_spelled (Int_op n) uses ts b h = plain_brings (Int_op n) uses ts b refl h
    op_spelled (Unit_op) uses ts b h = plain_brings (Unit_op) uses ts b refl h
    op_spelled (Fun_op f) uses ts b h = plain_brings (Fun_op f) uses ts b refl h
    op_spelled (Copy_op x) uses ts b h = plain_brings (Copy_op x) uses ts b refl h
    op_spelled (Arith_op o x y) uses ts b h = plain_brings (Arith_op o x y) uses ts b refl h
    op_spelled (New_op con fields) uses ts b h = plain_brings (New_op con fields) uses ts b refl h
    op_spelled (Read_op x con f) uses ts b h = plain_brings (Read_op x con f) uses ts b refl h
    op_spelled (Write_op x con f y) uses ts b h = plain_brings (Write_op x con f y) uses ts b refl h
    op_spelled (Retag_op x old new) uses ts b h = plain_brings (Retag_op x old new) uses ts b refl h
    op_spelled (Call_op f args) uses ts b h = plain_brings (Call_op f args) uses ts b refl h
    op_spelled (Give_op x y) uses ts b h = plain_brings (Give_op x y) uses ts b refl h
    op_spelled (Take_op x y) uses ts b h = plain_brings (Take_op x y) uses ts b refl h
    op_spelled (New_lock_op p) uses ts b h = plain_brings (New_lock_op p) uses ts b refl h
    op_spelled (Acquire_op l) uses ts b h = plain_brings (Acquire_op l) uses ts b refl h
    op_spelled (Release_op l) uses ts b h = plain_brings (Release_op l) uses ts b refl h
    op_spelled (Spawn_op f x) uses ts b h = plain_brings (Spawn_op f x) uses ts b refl h
    op_spelled (Print_op x) uses ts b h = plain_brings (Print_op x) uses ts b refl h

    case_spelled : (numbered : Bool) (body : Body) (ts : List T) (c : ScriptCase) → CaseText piece numbered body ts c
        → ((bodies : List Body) (cs : ScriptCases) → CasesSpelled p numbered bodies cs → CasesSpelled p numbered (body ∷ bodies) (More_script_cases c cs)) × Says piece ts (case_pieces (More_script_cases c No_script_cases))
    case_spelled numbered (The_body all value place) ts c (number, x, y, e, (t, one, is), (items, more, same)) =
        let inside = commands_spelled all y items more in
        subst (λ (d : ScriptCase). ((bodies : List Body) (cs : ScriptCases) → CasesSpelled p numbered bodies cs → CasesSpelled p numbered (The_body all value place ∷ bodies) (More_script_cases d cs)) × Says piece ts (case_pieces (More_script_cases d No_script_cases))) (sym same) (
          λ bodies cs h. Case_spelled (subst (λ (n : ℕ). NumberFits numbered n) (sym is) (number_fits p numbered (piece t) one.1 (sayable t))) (subst (λ (l : List Item). Spelled p (command_list all) l) (sym (back_items items)) inside.0) h,
          two_say ts x y (Case_line number ∷ []) (body_pieces items) e (one_says (cases numbered) x t _ one (case_says numbered (piece t) one.1 ∙ ap Case_line (sym is))) inside.1 ∙ ap (λ l. Case_line number ∷ l) (sym (append-nil (body_pieces items))),
        )

    cases_spelled : (numbered : Bool) (walked : Walked) (all : Cases) (ts : List T) (cs : ScriptCases) → CasesText piece numbered walked all ts cs
        → CasesSpelled p numbered (map body_of (filtered walked (case_list all))) cs × Says piece ts (case_pieces cs)
    cases_spelled numbered walked No_cases ts cs (none, same) = subst (λ (d : ScriptCases). CasesSpelled p numbered (map body_of (filtered walked [])) d × Says piece ts (case_pieces d)) (sym same) (no_case numbered walked, ap (map piece) none)
    cases_spelled numbered All_cases (More_cases (The_case con body) rest) ts cs (c, x, y, e, one, (others, more, same)) =
        let first = case_spelled numbered body x c one in
        let behind = cases_spelled numbered All_cases rest y others more in
        subst (λ (d : ScriptCases). CasesSpelled p numbered (body ∷ map body_of (case_list rest)) d × Says piece ts (case_pieces d)) (sym same)
        (first.0 (map body_of (case_list rest)) others behind.0, two_say ts x y (case_pieces (More_script_cases c No_script_cases)) (case_pieces others) e first.1 behind.1 ∙ one_more c others)
    cases_spelled numbered (Of_con known) (More_cases (The_case con body) rest) ts cs h =
        by_con numbered known con body rest ts cs (con == known) (λ x c. case_spelled numbered body x c) (λ y others. cases_spelled numbered (Of_con known) rest y others) h
