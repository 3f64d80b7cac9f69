-- What has the form of a script for a body is spelled by every text whose lines say so.
use Rattle.std.proofs.Common.{◌≡◌, ◌==◌, ℕ, Bool, true, false, List, [], ◌∷◌, ◌++◌, map, Option, IsTrue, refl, sym, ap, subst, ◌∙◌, append_assoc, append-nil, if◌then◌else◌}
use Rattle.mz_grammar.specs.Relations.{Nothing, Then, Image, Cases as Chosen}
use Rattle.mz_tree.specs.declared.types.Place.{Place}
use Rattle.mz_tree.specs.Plain.{Atom}
use Rattle.mz_tree.specs.Code.{Op, Command, Commands, Case, Cases, Body, The_command, No_commands, More_commands, The_case, No_cases, More_cases, The_body, If_op, Match_op, Int_op, Unit_op, Fun_op, Copy_op, Arith_op, New_op, Read_op, Write_op, Retag_op, Call_op, Give_op, Take_op, New_lock_op, Acquire_op, Release_op, Spawn_op, Print_op, commands_of, case_list, body_of, op_branches}
use Rattle.mz_tree.specs.Programs.{Program}
use Rattle.mz_tree.proofs.Chains.{commands_of_list}
use Rattle.mz_view.specs.Steps.{Step}
use Rattle.mz_flow.specs.Branches.{cases_at, walked_bodies}
use Rattle.mz_deriv.specs.Scripts.{Item, ItemChain, See_item, Do_item, ScriptCases, Script_case, No_script_cases, More_script_cases, items_of, item_list, No_items, More_items}
use Rattle.mz_deriv.specs.Spelled.{Spelled, Spelled_end, Spelled_step, Spelled_do, Spelled_branches, CasesSpelled, Cases_end, Case_spelled, NumberFits, has_number}
use Rattle.mz_script.specs.Pieces.{Piece, Step_line, Do_line, Case_line, Join_line, End_line, chain_pieces, case_pieces, join_pieces, body_pieces}
use Rattle.mz_script.specs.Places.{steps, does, cases, joins, ends, step_in, uses_in, number_in, atoms_in, Walked, All_cases, Of_con, walked_by}
use Rattle.mz_script.proofs.Format.{JoinLineText, JoinText, CommandsText, OpText, CaseText, CasesText}
use Rattle.mz_script.proofs.Spelling.{Says, filtered, walked_is}
use Rattle.mz_script.proofs.Casing.{HasCases, BodiesCases, JoinFits, joins_fit, walked_have}

pub chain_back : (items : ItemChain) → items_of (item_list items) ≡ items
chain_back No_items = refl
chain_back (More_items i rest) = ap (λ l. More_items i l) (chain_back rest)

case_number : (numbered : Bool) (n : ℕ) → NumberFits numbered n → IsTrue (cases numbered (Case_line n))
case_number true n h = refl
case_number false n h = ap (λ m. m == 0) h

module _ (p : Program) {T : Type 0} (piece : T → Piece) where
  -- a line, and those after it
  pub record FirstLine (ts : List T) (q : Piece) (ps : List Piece) : Type 0 where
    pub t : T
    pub rest : List T
    pub split : ts ≡ t ∷ rest
    pub says : piece t ≡ q
    pub others : Says piece rest ps

  pub first_line : (ts : List T) (q : Piece) (ps : List Piece) → Says piece ts (q ∷ ps) → FirstLine ts q ps
  first_line [] q ps e = cc
  first_line (t ∷ ts) q ps e = record { t = t; rest = ts; split = refl; says = cc; others = cc }

  pub no_line : (ts : List T) → Says piece ts [] → ts ≡ []
  no_line [] e = refl
  no_line (t ∷ ts) e = cc

  -- two fronts
  pub record Parts (ts : List T) (ps qs : List Piece) : Type 0 where
    pub x : List T
    pub y : List T
    pub split : ts ≡ x ++ y
    pub front : Says piece x ps
    pub back : Says piece y qs

  pub parts : (ps qs : List Piece) (ts : List T) → Says piece ts (ps ++ qs) → Parts ts ps qs
  parts [] qs ts e = record { x = []; y = ts; split = refl; front = refl; back = e }
  parts (q ∷ ps) qs ts e =
      let one : FirstLine ts q (ps ++ qs) = first_line ts q (ps ++ qs) e in
      let more : Parts one.rest ps qs = parts ps qs one.rest one.others in
      record { x = one.t ∷ more.x; y = more.y; split = one.split ∙ ap (λ l. one.t ∷ l) more.split; front = ap (λ r. r ∷ map piece more.x) one.says ∙ ap (λ l. q ∷ l) more.front; back = more.back }

  -- the bodies that are walked
  abbrev BodiesText : Bool → List Body → List T → ScriptCases → Type 0
  BodiesText numbered [] = Nothing No_script_cases
  BodiesText numbered (body ∷ bodies) = Then (CaseText piece numbered body) (λ c. Image (λ cs. More_script_cases c cs) (BodiesText numbered bodies))

  step_first : (all : Commands) (s : Step) (t : T) (rest : List T) (items : List Item) → piece t ≡ Step_line s → CommandsText piece all rest items → CommandsText piece all (t ∷ rest) (See_item s ∷ items)
  unfolding CommandsText
  step_first No_commands s t rest items says (ss, x, y, e, some, (u, one, same)) =
      (s ∷ ss, t ∷ x, y, ap (λ l. t ∷ l) e, (t ∷ [], x, refl, (t, (refl, ap steps says), sym (ap step_in says)), some), (u, one, ap (λ l. See_item s ∷ l) same))
  step_first (More_commands (The_command to op place) more) s t rest items says (ss, x, y, e, some, (u, v, w, f, one, (b, q, r, g, brings, (others, all, same)))) =
      (s ∷ ss, t ∷ x, y, ap (λ l. t ∷ l) e, (t ∷ [], x, refl, (t, (refl, ap steps says), sym (ap step_in says)), some), (u, v, w, f, one, (b, q, r, g, brings, (others, all, ap (λ l. See_item s ∷ l) same))))

  do_first : (to : ℕ) (op : Op) (place : Place) (rest : Commands) (t : T) (uses : Option (Atom ℕ)) (b : ScriptCases × List (Atom ℕ)) (q r : List T) (others : List Item) →
      piece t ≡ Do_line uses → OpText piece op uses q b → CommandsText piece rest r others → CommandsText piece (More_commands (The_command to op place) rest) (t ∷ (q ++ r)) (Do_item uses b.0 b.1 ∷ others)
  unfolding CommandsText
  do_first to op place rest t uses b q r others says brings more =
      ([], [], t ∷ (q ++ r), refl, refl, (uses, t ∷ [], q ++ r, refl, (t, (refl, ap does says), sym (ap uses_in says)), (b, q, r, refl, brings, (others, more, refl))))

  join_text : (cs : ScriptCases) (join : List (Atom ℕ)) (ts : List T) → JoinFits cs join → Says piece ts (join_pieces cs join) → JoinText piece cs ts join
  join_text No_script_cases join ts fits says = (no_line ts says, fits)
  join_text (More_script_cases c rest) join ts fits says =
      let one : FirstLine ts (Join_line join) [] = first_line ts (Join_line join) [] says in
      (one.t, (one.split ∙ ap (λ l. one.t ∷ l) (no_line one.rest one.others), ap joins one.says), sym (ap atoms_in one.says))

  cases_text : (numbered : Bool) (walked : Walked) (all : Cases) (ts : List T) (cs : ScriptCases) → BodiesText numbered (map body_of (filtered walked (case_list all))) ts cs → CasesText piece numbered walked all ts cs
  unfolding CommandsText
  cases_text numbered All_cases No_cases ts cs h = h
  cases_text numbered (Of_con known) No_cases ts cs h = h
  cases_text numbered All_cases (More_cases (The_case con body) rest) ts cs (c, x, y, e, one, (others, more, same)) = (c, x, y, e, one, (others, cases_text numbered All_cases rest y others more, same))
  cases_text numbered (Of_con known) (More_cases (The_case con body) rest) ts cs h = by_con (con == known) (λ y others. cases_text numbered (Of_con known) rest y others) h
    where
      by_con : (b : Bool) → ((y : List T) (others : ScriptCases) → BodiesText numbered (map body_of (cases_at known (case_list rest))) y others → CasesText piece numbered (Of_con known) rest y others)
          → BodiesText numbered (map body_of (if b then The_case con body ∷ cases_at known (case_list rest) else cases_at known (case_list rest))) ts cs
          → Chosen b (Then (CaseText piece numbered body) (λ c. Image (λ d. More_script_cases c d) (CasesText piece numbered (Of_con known) rest))) (CasesText piece numbered (Of_con known) rest) ts cs
      by_con true again (c, x, y, e, one, (others, more, same)) = (c, x, y, e, one, (others, again y others more, same))
      by_con false again h = again ts cs h

  op_text : (op : Op) (uses : Option (Atom ℕ)) (cs : ScriptCases) (join : List (Atom ℕ)) (x y : List T) → op_branches op ≡ true → BodiesText (has_number op uses) (walked_bodies op uses) x cs →
      JoinFits cs join → Says piece y (join_pieces cs join) → OpText piece op uses (x ++ y) (cs, join)
  unfolding CommandsText
  op_text (If_op test on_true on_false giving) uses cs join x y is (c, v, w, e, one, (others, (d, r, q, f, two, (no_more, (none, nil), same_two)), same)) fits says =
      let cases_are : cs ≡ More_script_cases c (More_script_cases d No_script_cases) = same ∙ ap (λ l. More_script_cases c l) (same_two ∙ ap (λ l. More_script_cases d l) nil) in
      let joined : JoinLineText piece y join = join_text (More_script_cases c (More_script_cases d No_script_cases)) join y tt (subst (λ (l : ScriptCases). Says piece y (join_pieces l join)) cases_are says) in
      let flat : x ≡ v ++ r = e ∙ ap (λ l. v ++ l) (f ∙ ap (λ l. r ++ l) none ∙ append-nil r) in
      (c, v, r ++ y, ap (λ l. l ++ y) flat ∙ append_assoc v r y, one, (d, r, y, refl, two, (join, joined, ap (λ l. (l, join)) cases_are)))
  op_text (Match_op block data_type all giving) uses cs join x y is walked fits says =
      let numbered : Bool = has_number (Match_op block data_type all giving) uses in
      let one = subst (λ (l : List Case). BodiesText numbered (map body_of l) x cs) (walked_is uses all) walked in
      (cs, x, y, refl, cases_text numbered (walked_by uses all) all x cs one, (join, join_text cs join y fits says, refl))
  op_text (Int_op n) uses cs join x y is walked fits says = cc
  op_text (Unit_op) uses cs join x y is walked fits says = cc
  op_text (Fun_op f) uses cs join x y is walked fits says = cc
  op_text (Copy_op v) uses cs join x y is walked fits says = cc
  op_text (Arith_op o l r) uses cs join x y is walked fits says = cc
  op_text (New_op con fields) uses cs join x y is walked fits says = cc
  op_text (Read_op v con f) uses cs join x y is walked fits says = cc
  op_text (Write_op v con f z) uses cs join x y is walked fits says = cc
  op_text (Retag_op v old new) uses cs join x y is walked fits says = cc
  op_text (Call_op f args) uses cs join x y is walked fits says = cc
  op_text (Give_op v z) uses cs join x y is walked fits says = cc
  op_text (Take_op v z) uses cs join x y is walked fits says = cc
  op_text (New_lock_op guarded) uses cs join x y is walked fits says = cc
  op_text (Acquire_op l) uses cs join x y is walked fits says = cc
  op_text (Release_op l) uses cs join x y is walked fits says = cc
  op_text (Spawn_op f v) uses cs join x y is walked fits says = cc
  op_text (Print_op v) uses cs join x y is walked fits says = cc

  plain_text : (op : Op) (uses : Option (Atom ℕ)) → op_branches op ≡ false → OpText piece op uses [] (No_script_cases, [])
  unfolding CommandsText
  plain_text (If_op test on_true on_false giving) uses e = cc
  plain_text (Match_op block data_type all giving) uses e = cc
  plain_text (Int_op n) uses e = (refl, refl)
  plain_text (Unit_op) uses e = (refl, refl)
  plain_text (Fun_op f) uses e = (refl, refl)
  plain_text (Copy_op v) uses e = (refl, refl)
  plain_text (Arith_op o l r) uses e = (refl, refl)
  plain_text (New_op con fields) uses e = (refl, refl)
  plain_text (Read_op v con f) uses e = (refl, refl)
  plain_text (Write_op v con f z) uses e = (refl, refl)
  plain_text (Retag_op v old new) uses e = (refl, refl)
  plain_text (Call_op f args) uses e = (refl, refl)
  plain_text (Give_op v z) uses e = (refl, refl)
  plain_text (Take_op v z) uses e = (refl, refl)
  plain_text (New_lock_op guarded) uses e = (refl, refl)
  plain_text (Acquire_op l) uses e = (refl, refl)
  plain_text (Release_op l) uses e = (refl, refl)
  plain_text (Spawn_op f v) uses e = (refl, refl)
  plain_text (Print_op v) uses e = (refl, refl)

  mutual
    unfolding CommandsText

    pub commands_text : {commands : List Command} {items : List Item} → Spelled p commands items → HasCases (commands_of commands) → (ts : List T) → Says piece ts (body_pieces items) → CommandsText piece (commands_of commands) ts items
    commands_text Spelled_end has ts says =
        let one : FirstLine ts End_line [] = first_line ts End_line [] says in
        ([], [], ts, refl, refl, (one.t, (one.split ∙ ap (λ l. one.t ∷ l) (no_line one.rest one.others), ap ends one.says), refl))
    commands_text (Spelled_step {s = s} {commands = commands} {items = items} w h) has ts says =
        let one : FirstLine ts (Step_line s) (body_pieces items) = first_line ts (Step_line s) (body_pieces items) says in
        subst (λ (l : List T). CommandsText piece (commands_of commands) l (See_item s ∷ items)) (sym one.split)
        (step_first (commands_of commands) s one.t one.rest items one.says (commands_text h has one.rest one.others))
    commands_text (Spelled_do {c = The_command to op place} {uses = uses} {commands = commands} {items = items} flat w h) (here, has) ts says =
        let one : FirstLine ts (Do_line uses) (body_pieces items) = first_line ts (Do_line uses) (body_pieces items) says in
        subst (λ (l : List T). CommandsText piece (More_commands (The_command to op place) (commands_of commands)) l (Do_item uses No_script_cases [] ∷ items)) (sym one.split)
        (do_first to op place (commands_of commands) one.t uses (No_script_cases, []) [] one.rest items one.says (plain_text op uses flat) (commands_text h has one.rest one.others))
    commands_text (Spelled_branches {c = The_command to op place} {uses = uses} {cases = cs} {join = join} {commands = commands} {items = items} branches w j walked h) (here, has) ts says =
        let one : FirstLine ts (Do_line uses) (case_pieces cs ++ (join_pieces cs join ++ body_pieces items)) = first_line ts (Do_line uses) (case_pieces cs ++ (join_pieces cs join ++ body_pieces items)) says in
        let two : Parts one.rest (case_pieces cs) (join_pieces cs join ++ body_pieces items) = parts (case_pieces cs) (join_pieces cs join ++ body_pieces items) one.rest one.others in
        let three : Parts two.y (join_pieces cs join) (body_pieces items) = parts (join_pieces cs join) (body_pieces items) two.y two.back in
        subst (λ (l : List T). CommandsText piece (More_commands (The_command to op place) (commands_of commands)) l (Do_item uses cs join ∷ items))
        (sym (one.split ∙ ap (λ l. one.t ∷ l) (two.split ∙ ap (λ l. two.x ++ l) three.split ∙ sym (append_assoc two.x three.x three.y))))
        (do_first to op place (commands_of commands) one.t uses (cs, join) (two.x ++ three.x) three.y items one.says
        (op_text op uses cs join two.x three.x branches (bodies_text walked (walked_have op uses here) two.x two.front) (joins_fit p op uses cs join here branches walked) three.front) (commands_text h has three.y three.back))

    bodies_text : {numbered : Bool} {bodies : List Body} {cs : ScriptCases} → CasesSpelled p numbered bodies cs → BodiesCases bodies → (ts : List T) → Says piece ts (case_pieces cs) → BodiesText numbered bodies ts cs
    bodies_text Cases_end has ts says = (no_line ts says, refl)
    bodies_text (Case_spelled {numbered = numbered} {fresh = fresh} {items = items} {body = The_body all value place} {bodies = bodies} {cases = cs} fits h more) (here, has) ts says =
        let one : FirstLine ts (Case_line fresh) (chain_pieces items ++ case_pieces cs) = first_line ts (Case_line fresh) (chain_pieces items ++ case_pieces cs) says in
        let two : Parts one.rest (chain_pieces items) (case_pieces cs) = parts (chain_pieces items) (case_pieces cs) one.rest one.others in
        let inside = commands_text h (subst HasCases (sym (commands_of_list all)) here) two.x (two.front ∙ ap chain_pieces (sym (chain_back items))) in
        let body : CommandsText piece all two.x (item_list items) = subst (λ (l : Commands). CommandsText piece l two.x (item_list items)) (commands_of_list all) inside in (
          Script_case fresh items,
          one.t ∷ two.x,
          two.y,
          one.split ∙ ap (λ l. one.t ∷ l) two.split,
          (
            fresh,
            one.t ∷ [],
            two.x,
            refl,
            (one.t, (refl, ap (cases numbered) one.says ∙ case_number numbered fresh fits), sym (ap number_in one.says)),
            (item_list items, body, ap (λ l. Script_case fresh l) (sym (chain_back items))),
          ),
          (cs, bodies_text more has two.y two.back, refl),
        )
