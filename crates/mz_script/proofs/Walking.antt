-- What the functions of the code read, line by line.
use Rattle.std.proofs.Common.{◌≡◌, ℕ, Bool, true, false, List, [], ◌∷◌, ◌++◌, length, Option, Some, None, Ok, Err, refl, sym, ap, ◌∙◌, append_assoc, append-nil, if◌then◌else◌}
use Rattle.mz_grammar.specs.Reading.{Read, Wrong, ◌>>=◌, bind, done, token_at, many_at}
use Rattle.mz_grammar.proofs.Loops.{with_front}
use Rattle.mz_tree.specs.Plain.{Atom}
use Rattle.mz_view.specs.Steps.{Step}
use Rattle.mz_deriv.specs.Scripts.{Item, See_item}
use Rattle.mz_script.specs.Pieces.{Piece, Head_line, Fun_line, Step_line, Do_line, Case_line, Join_line, End_line, No_line}
use Rattle.mz_script.specs.Places.{heads, begins_fun, steps, does, cases, joins, ends, step_in, uses_in, number_in, atoms_in, as_do, as_step, as_case, as_join, line, seen}
use Rattle.mz_script.specs.Reading.{step_at, steps_at, seen_at, do_at, case_at, join_at, end_at, head_at, fun_at}

module _ {T : Type 0} (piece : T → Piece) where
  -- a line that is looked for, and what it says
  abbrev told : {A : Type 0} → (Piece → Bool) → (Piece → A) → List T → Read T A
  told kind value = bind (token_at (line piece kind)) (λ t. done (value (piece t)))

  -- it is there
  told_is : {A : Type 0} (kind : Piece → Bool) (value : Piece → A) (t : T) (ts : List T) → kind (piece t) ≡ true → told kind value (t ∷ ts) ≡ Ok (value (piece t), ts)
  told_is kind value t ts e = ap (λ b. (if b then Ok (t, ts) else Err (Wrong (t ∷ ts))) >>= λ x. Ok (value (piece x.0), x.1)) e

  -- another is
  told_not : {A : Type 0} (kind : Piece → Bool) (value : Piece → A) (t : T) (ts : List T) → kind (piece t) ≡ false → told kind value (t ∷ ts) ≡ Err (Wrong (t ∷ ts))
  told_not kind value t ts e = ap (λ b. (if b then Ok (t, ts) else Err (Wrong (t ∷ ts))) >>= λ x. Ok (value (piece x.0), x.1)) e

  do_yes : (p : Piece) (uses : Option (Atom ℕ)) → as_do p ≡ Some uses → (does p ≡ true) × (uses_in p ≡ uses)
  do_yes (Do_line u) uses e = (refl, cc)
  do_yes Head_line uses e = cc
  do_yes (Fun_line name) uses e = cc
  do_yes (Step_line s) uses e = cc
  do_yes (Case_line n) uses e = cc
  do_yes (Join_line atoms) uses e = cc
  do_yes End_line uses e = cc
  do_yes No_line uses e = cc

  do_no : (p : Piece) → as_do p ≡ None → does p ≡ false
  do_no (Do_line u) e = cc
  do_no Head_line e = refl
  do_no (Fun_line name) e = refl
  do_no (Step_line s) e = refl
  do_no (Case_line n) e = refl
  do_no (Join_line atoms) e = refl
  do_no End_line e = refl
  do_no No_line e = refl

  step_yes : (p : Piece) (s : Step) → as_step p ≡ Some s → (steps p ≡ true) × (step_in p ≡ s)
  step_yes (Step_line u) s e = (refl, cc)
  step_yes Head_line s e = cc
  step_yes (Fun_line name) s e = cc
  step_yes (Do_line u) s e = cc
  step_yes (Case_line n) s e = cc
  step_yes (Join_line atoms) s e = cc
  step_yes End_line s e = cc
  step_yes No_line s e = cc

  step_no : (p : Piece) → as_step p ≡ None → steps p ≡ false
  step_no (Step_line u) e = cc
  step_no Head_line e = refl
  step_no (Fun_line name) e = refl
  step_no (Do_line u) e = refl
  step_no (Case_line n) e = refl
  step_no (Join_line atoms) e = refl
  step_no End_line e = refl
  step_no No_line e = refl

  -- ---- the line of a `do`

  pub do_found : (ts rest : List T) (t : T) (p : Piece) (uses : Option (Atom ℕ)) → ts ≡ t ∷ rest → piece t ≡ p → as_do p ≡ Some uses → do_at piece ts ≡ Ok (uses, rest)
  unfolding do_at
  do_found ts rest t p uses split says is =
      let it = do_yes p uses is in
      ap (do_at piece) split ∙ told_is does uses_in t rest (ap does says ∙ it.0) ∙ ap (λ u. Ok (u, rest)) (ap uses_in says ∙ it.1)

  pub do_other : (ts rest : List T) (t : T) (p : Piece) → ts ≡ t ∷ rest → piece t ≡ p → as_do p ≡ None → do_at piece ts ≡ Err (Wrong ts)
  unfolding do_at
  do_other ts rest t p split says is = ap (do_at piece) split ∙ told_not does uses_in t rest (ap does says ∙ do_no p is) ∙ ap (λ l. Err (Wrong l)) (sym split)

  pub do_none : do_at piece [] ≡ Err (Wrong [])
  unfolding do_at
  do_none = refl

  -- ---- steps

  abbrev runs : List T → Read T (List Step)
  runs [] = Ok ([], [])
  runs (t ∷ ts) = if steps (piece t) then (runs ts >>= λ xs. Ok (step_in (piece t) ∷ xs.0, xs.1)) else Ok ([], t ∷ ts)

  -- one round, by whether the line is a step
  round : (b : Bool) (t : T) (ts : List T) →
      (if b then (((if b then Ok (t, ts) else Err (Wrong (t ∷ ts))) >>= λ x. Ok (step_in (piece x.0), x.1)) >>= λ x. many_at (line piece steps) (step_at piece) (length ts) x.1 >>= λ xs. Ok (x.0 ∷ xs.0, xs.1)) else Ok ([], t ∷ ts))
      ≡ (if b then (many_at (line piece steps) (step_at piece) (length ts) ts >>= λ xs. Ok (step_in (piece t) ∷ xs.0, xs.1)) else Ok ([], t ∷ ts))
  round true t ts = refl
  round false t ts = refl

  many_runs : (ts : List T) → steps_at piece ts ≡ runs ts
  unfolding many_at
  many_runs [] = refl
  many_runs (t ∷ ts) = round (steps (piece t)) t ts ∙ ap (λ r. if steps (piece t) then (r >>= λ xs. Ok (step_in (piece t) ∷ xs.0, xs.1)) else Ok ([], t ∷ ts)) (many_runs ts)

  seen_runs : (ts : List T) → seen_at piece ts ≡ (runs ts >>= λ xs. Ok (seen xs.0 [], xs.1))
  unfolding seen_at
  seen_runs ts = ap (λ r. r >>= λ xs. Ok (seen xs.0 [], xs.1)) (many_runs ts)

  pub seen_none : seen_at piece [] ≡ Ok ([], [])
  seen_none = seen_runs []

  pub seen_other : (ts rest : List T) (t : T) (p : Piece) → ts ≡ t ∷ rest → piece t ≡ p → as_step p ≡ None → seen_at piece ts ≡ Ok ([], ts)
  seen_other ts rest t p split says is =
      ap (seen_at piece) split ∙ seen_runs (t ∷ rest)
      ∙ ap (λ b. (if b then (runs rest >>= λ xs. Ok (step_in (piece t) ∷ xs.0, xs.1)) else Ok ([], t ∷ rest)) >>= λ xs. Ok (seen xs.0 [], xs.1)) (ap steps says ∙ step_no p is)
      ∙ ap (λ l. Ok ([], l)) (sym split)

  move : (front : List Item) (s : Step) (r : Read T (List Step)) →
      with_front front ((r >>= λ xs. Ok (s ∷ xs.0, xs.1)) >>= λ xs. Ok (seen xs.0 [], xs.1)) ≡ with_front (front ++ See_item s ∷ []) (r >>= λ xs. Ok (seen xs.0 [], xs.1))
  move front s (Ok x) = ap (λ l. Ok (l, x.1)) (sym (append_assoc front (See_item s ∷ []) (seen x.0 [])))
  move front s (Err e) = refl

  pub seen_more : (front : List Item) (ts rest : List T) (t : T) (p : Piece) (s : Step) → ts ≡ t ∷ rest → piece t ≡ p → as_step p ≡ Some s →
      with_front front (seen_at piece ts) ≡ with_front (front ++ See_item s ∷ []) (seen_at piece rest)
  seen_more front ts rest t p s split says is =
      let it = step_yes p s is in
      ap (with_front front) (ap (seen_at piece) split ∙ seen_runs (t ∷ rest)
      ∙ ap (λ b. (if b then (runs rest >>= λ xs. Ok (step_in (piece t) ∷ xs.0, xs.1)) else Ok ([], t ∷ rest)) >>= λ xs. Ok (seen xs.0 [], xs.1)) (ap steps says ∙ it.0)
      ∙ ap (λ u. (runs rest >>= λ xs. Ok (u ∷ xs.0, xs.1)) >>= λ xs. Ok (seen xs.0 [], xs.1)) (ap step_in says ∙ it.1))
      ∙ move front s (runs rest) ∙ ap (with_front (front ++ See_item s ∷ [])) (sym (seen_runs rest))

  -- ---- the loop of steps

  -- no line is left
  pub none_left : (front : List Item) (ts : List T) (all : Read T (List Item)) → ts ≡ [] → with_front front (seen_at piece ts) ≡ all → all ≡ Ok (front, ts)
  none_left front ts all none inv = sym inv ∙ ap (λ l. with_front front (seen_at piece l)) none ∙ ap (with_front front) seen_none ∙ ap (λ l. Ok (l, [])) (append-nil front) ∙ ap (λ l. Ok (front, l)) (sym none)

  -- the next line is no step
  pub stopped_at : (front : List Item) (ts rest : List T) (t : T) (p : Piece) (all : Read T (List Item)) → ts ≡ t ∷ rest → piece t ≡ p → as_step p ≡ None → with_front front (seen_at piece ts) ≡ all → all ≡ Ok (front, ts)
  stopped_at front ts rest t p all split says is inv = sym inv ∙ ap (with_front front) (seen_other ts rest t p split says is) ∙ ap (λ l. Ok (l, ts)) (append-nil front)

  -- ---- the lines of a case, a join and an end

  case_line : (p : Piece) (n : ℕ) → as_case p ≡ Some n → p ≡ Case_line n
  case_line (Case_line m) n e = cc
  case_line Head_line n e = cc
  case_line (Fun_line name) n e = cc
  case_line (Step_line s) n e = cc
  case_line (Do_line u) n e = cc
  case_line (Join_line atoms) n e = cc
  case_line End_line n e = cc
  case_line No_line n e = cc

  case_no : (numbered : Bool) (p : Piece) → as_case p ≡ None → cases numbered p ≡ false
  case_no true (Case_line m) e = cc
  case_no true Head_line e = refl
  case_no true (Fun_line name) e = refl
  case_no true (Step_line s) e = refl
  case_no true (Do_line u) e = refl
  case_no true (Join_line atoms) e = refl
  case_no true End_line e = refl
  case_no true No_line e = refl
  case_no false (Case_line m) e = cc
  case_no false Head_line e = refl
  case_no false (Fun_line name) e = refl
  case_no false (Step_line s) e = refl
  case_no false (Do_line u) e = refl
  case_no false (Join_line atoms) e = refl
  case_no false End_line e = refl
  case_no false No_line e = refl

  pub case_none : (numbered : Bool) → case_at piece numbered [] ≡ Err (Wrong [])
  unfolding case_at
  case_none numbered = refl

  pub case_found : (numbered : Bool) (ts rest : List T) (t : T) (p : Piece) (n : ℕ) → ts ≡ t ∷ rest → piece t ≡ p → as_case p ≡ Some n → cases numbered (Case_line n) ≡ true → case_at piece numbered ts ≡ Ok (n, rest)
  unfolding case_at
  case_found numbered ts rest t p n split says is ok =
      let it = says ∙ case_line p n is in
      ap (case_at piece numbered) split ∙ told_is (cases numbered) number_in t rest (ap (cases numbered) it ∙ ok) ∙ ap (λ u. Ok (u, rest)) (ap number_in it)

  pub case_bad : (numbered : Bool) (ts rest : List T) (t : T) (p : Piece) (n : ℕ) → ts ≡ t ∷ rest → piece t ≡ p → as_case p ≡ Some n → cases numbered (Case_line n) ≡ false → case_at piece numbered ts ≡ Err (Wrong ts)
  unfolding case_at
  case_bad numbered ts rest t p n split says is bad =
      ap (case_at piece numbered) split ∙ told_not (cases numbered) number_in t rest (ap (cases numbered) (says ∙ case_line p n is) ∙ bad) ∙ ap (λ l. Err (Wrong l)) (sym split)

  pub case_other : (numbered : Bool) (ts rest : List T) (t : T) (p : Piece) → ts ≡ t ∷ rest → piece t ≡ p → as_case p ≡ None → case_at piece numbered ts ≡ Err (Wrong ts)
  unfolding case_at
  case_other numbered ts rest t p split says is = ap (case_at piece numbered) split ∙ told_not (cases numbered) number_in t rest (ap (cases numbered) says ∙ case_no numbered p is) ∙ ap (λ l. Err (Wrong l)) (sym split)

  join_line : (p : Piece) (atoms : List (Atom ℕ)) → as_join p ≡ Some atoms → p ≡ Join_line atoms
  join_line (Join_line m) atoms e = cc
  join_line Head_line atoms e = cc
  join_line (Fun_line name) atoms e = cc
  join_line (Step_line s) atoms e = cc
  join_line (Do_line u) atoms e = cc
  join_line (Case_line n) atoms e = cc
  join_line End_line atoms e = cc
  join_line No_line atoms e = cc

  join_no : (p : Piece) → as_join p ≡ None → joins p ≡ false
  join_no (Join_line m) e = cc
  join_no Head_line e = refl
  join_no (Fun_line name) e = refl
  join_no (Step_line s) e = refl
  join_no (Do_line u) e = refl
  join_no (Case_line n) e = refl
  join_no End_line e = refl
  join_no No_line e = refl

  pub join_none : join_at piece [] ≡ Err (Wrong [])
  unfolding join_at
  join_none = refl

  pub join_found : (ts rest : List T) (t : T) (p : Piece) (atoms : List (Atom ℕ)) → ts ≡ t ∷ rest → piece t ≡ p → as_join p ≡ Some atoms → join_at piece ts ≡ Ok (atoms, rest)
  unfolding join_at
  join_found ts rest t p atoms split says is =
      let it = says ∙ join_line p atoms is in
      ap (join_at piece) split ∙ told_is joins atoms_in t rest (ap joins it) ∙ ap (λ u. Ok (u, rest)) (ap atoms_in it)

  pub join_other : (ts rest : List T) (t : T) (p : Piece) → ts ≡ t ∷ rest → piece t ≡ p → as_join p ≡ None → join_at piece ts ≡ Err (Wrong ts)
  unfolding join_at
  join_other ts rest t p split says is = ap (join_at piece) split ∙ told_not joins atoms_in t rest (ap joins says ∙ join_no p is) ∙ ap (λ l. Err (Wrong l)) (sym split)

  pub end_none : end_at piece [] ≡ Err (Wrong [])
  unfolding end_at
  end_none = refl

  pub end_found : (ts rest : List T) (t : T) (p : Piece) → ts ≡ t ∷ rest → piece t ≡ p → ends p ≡ true → end_at piece ts ≡ Ok (tt, rest)
  unfolding end_at
  end_found ts rest t p split says is = ap (end_at piece) split ∙ told_is ends (λ q. tt) t rest (ap ends says ∙ is)

  pub end_other : (ts rest : List T) (t : T) (p : Piece) → ts ≡ t ∷ rest → piece t ≡ p → ends p ≡ false → end_at piece ts ≡ Err (Wrong ts)
  unfolding end_at
  end_other ts rest t p split says is = ap (end_at piece) split ∙ told_not ends (λ q. tt) t rest (ap ends says ∙ is) ∙ ap (λ l. Err (Wrong l)) (sym split)

  -- ---- the first line, and the line of a function

  pub head_none : head_at piece [] ≡ Err (Wrong [])
  unfolding head_at
  head_none = refl

  pub head_found : (ts rest : List T) (t : T) (p : Piece) → ts ≡ t ∷ rest → piece t ≡ p → heads p ≡ true → head_at piece ts ≡ Ok (tt, rest)
  unfolding head_at
  head_found ts rest t p split says is = ap (head_at piece) split ∙ told_is heads (λ q. tt) t rest (ap heads says ∙ is)

  pub head_other : (ts rest : List T) (t : T) (p : Piece) → ts ≡ t ∷ rest → piece t ≡ p → heads p ≡ false → head_at piece ts ≡ Err (Wrong ts)
  unfolding head_at
  head_other ts rest t p split says is = ap (head_at piece) split ∙ told_not heads (λ q. tt) t rest (ap heads says ∙ is) ∙ ap (λ l. Err (Wrong l)) (sym split)

  module _ (name : List ℕ) where
    pub fun_none : fun_at piece name [] ≡ Err (Wrong [])
    unfolding fun_at
    fun_none = refl

    pub fun_found : (ts rest : List T) (t : T) (p : Piece) → ts ≡ t ∷ rest → piece t ≡ p → begins_fun name p ≡ true → fun_at piece name ts ≡ Ok (tt, rest)
    unfolding fun_at
    fun_found ts rest t p split says is = ap (fun_at piece name) split ∙ told_is (begins_fun name) (λ q. tt) t rest (ap (begins_fun name) says ∙ is)

    pub fun_other : (ts rest : List T) (t : T) (p : Piece) → ts ≡ t ∷ rest → piece t ≡ p → begins_fun name p ≡ false → fun_at piece name ts ≡ Err (Wrong ts)
    unfolding fun_at
    fun_other ts rest t p split says is = ap (fun_at piece name) split ∙ told_not (begins_fun name) (λ q. tt) t rest (ap (begins_fun name) says ∙ is) ∙ ap (λ l. Err (Wrong l)) (sym split)
