-- The cases of a match as the code goes through them, one by one.
use Rattle.std.proofs.Common.{◌≡◌, ◌==◌, ℕ, zero, suc, ◌<◌, ◌≤◌, ◌+◌, Bool, true, false, List, [], ◌∷◌, ◌++◌, length, drop, get_or, Option, Some, None, Ok, Err, inl, inr, refl, sym, ap, subst, ◌∙◌, if◌then◌else◌, arith}
use Rattle.std.proofs.lemmas.Bool.Decides.{eqb_tells}
use Rattle.std.proofs.lemmas.List.{drop_more}
use Rattle.mz_grammar.specs.Reading.{Read, ◌>>=◌, bind, done}
use Rattle.mz_grammar.specs.Answers.{Stopped, Stops}
use Rattle.mz_tree.specs.Plain.{Atom, Has_atom, Same_atom, Int_type, Unknown_type, Dynamic_type, Locked_type, Named_type, Function_type, Block_type, Lock_type}
use Rattle.mz_deriv.specs.Spelled.{has_number}
use Rattle.mz_tree.specs.Code.{Match_op, Body, Case, Cases, The_case, No_cases, More_cases, cases_of}
use Rattle.mz_tree.specs.View.{plain_body, plain_cases}
use Rattle.mz_tree.specs.declared.code.Case.{Case as CodeCase, out-Case}
use Rattle.mz_tree.proofs.CodeViews.{plain_case_is}
use Rattle.mz_deriv.specs.Scripts.{ScriptCase, ScriptCases, No_script_cases, More_script_cases, script_cases_of}
use Rattle.mz_script.specs.Pieces.{Piece}
use Rattle.mz_script.specs.Places.{Walked, has_case, numbered_by, walked_by, walks}
use Rattle.mz_script.specs.Reading.{case_by, cases_by, commands_by, join_by, match_by, op_by}
use Rattle.mz_script.proofs.Bodies.{stops_then, stops_same}

-- the cases that are left begin with the next
pub next_case : (cases : List CodeCase) (i : ℕ) (c : CodeCase) → i < length cases → c ≡ get_or cases i c →
    cases_of (plain_cases (drop i cases)) ≡ More_cases (The_case (out-Case c).con (plain_body (out-Case c).body)) (cases_of (plain_cases (drop (i + 1) cases)))
next_case cases i c within here =
    ap (λ l. cases_of (plain_cases l)) (drop_more cases i c within) ∙ ap (λ x. cases_of (plain_cases (x ∷ drop (i + 1) cases))) (sym here) ∙ ap (λ x. More_cases x (cases_of (plain_cases (drop (i + 1) cases)))) (plain_case_is c)

pub no_case_left : (cases : List CodeCase) (i : ℕ) → length cases ≤ i → cases_of (plain_cases (drop i cases)) ≡ No_cases
no_case_left [] zero le = refl
no_case_left [] (suc i) le = refl
no_case_left (c ∷ cases) zero le = absurd (omega arith)
no_case_left (c ∷ cases) (suc i) le = no_case_left cases i (omega arith)

-- ---- whether there is one of a constructor

same_number : (n m : ℕ) → n ≡ m → (n == m) ≡ true
same_number n m e = elim (eqb_tells n m) [
  | inl t ↦ t.0
  | inr t ↦ absurd (t.1 e)
]

other_number : (n m : ℕ) → (n ≡ m → ⊥) → (n == m) ≡ false
other_number n m e = elim (eqb_tells n m) [
  | inl t ↦ absurd (e t.1)
  | inr t ↦ t.0
]

pub has_here : (cases : List CodeCase) (i con : ℕ) (c : CodeCase) → i < length cases → c ≡ get_or cases i c → (out-Case (get_or cases i c)).con ≡ con → has_case con (cases_of (plain_cases (drop i cases))) ≡ true
has_here cases i con c within here same = ap (has_case con) (next_case cases i c within here) ∙ ap (λ b. if b then true else has_case con (cases_of (plain_cases (drop (i + 1) cases)))) (same_number (out-Case c).con con (subst (λ x. (out-Case x).con ≡ con) (sym here) same))

pub has_later : (cases : List CodeCase) (i con : ℕ) (c : CodeCase) → i < length cases → c ≡ get_or cases i c → ((out-Case (get_or cases i c)).con ≡ con → ⊥) → has_case con (cases_of (plain_cases (drop i cases))) ≡ has_case con (cases_of (plain_cases (drop (i + 1) cases)))
has_later cases i con c within here other = ap (has_case con) (next_case cases i c within here) ∙ ap (λ b. if b then true else has_case con (cases_of (plain_cases (drop (i + 1) cases)))) (other_number (out-Case c).con con (subst (λ x. (out-Case x).con ≡ con → ⊥) (sym here) other))

-- ---- a match, and what its `do` uses

number_is : (block data_type : ℕ) (all : Cases) (giving : List (Atom ℕ)) (uses : Option (Atom ℕ)) → has_number (Match_op block data_type all giving) uses ≡ numbered_by uses
number_is block data_type all giving None = refl
number_is block data_type all giving (Some (Same_atom x y)) = refl
number_is block data_type all giving (Some (Has_atom x Int_type)) = refl
number_is block data_type all giving (Some (Has_atom x Unknown_type)) = refl
number_is block data_type all giving (Some (Has_atom x Dynamic_type)) = refl
number_is block data_type all giving (Some (Has_atom x Locked_type)) = refl
number_is block data_type all giving (Some (Has_atom x (Named_type d))) = refl
number_is block data_type all giving (Some (Has_atom x (Function_type s))) = refl
number_is block data_type all giving (Some (Has_atom x (Block_type con fields adopts))) = refl
number_is block data_type all giving (Some (Has_atom x (Lock_type guarded))) = refl

pub match_is : {T : Type 0} (piece : T → Piece) (block data_type : ℕ) (all : Cases) (giving : List (Atom ℕ)) (uses : Option (Atom ℕ)) (ts : List T) → op_by piece (Match_op block data_type all giving) uses ts ≡ match_by piece uses all ts
unfolding commands_by match_by
match_is piece block data_type all giving uses ts =
    ap (λ n. bind (cases_by piece n (walked_by uses all) all) (λ cs. bind (join_by piece cs) (λ join. done (cs, join))) ts) (number_is block data_type all giving uses)

-- ---- scripts of cases

-- those so far before others
abbrev pub before_cases : List ScriptCase → ScriptCases → ScriptCases
before_cases [] cs = cs
before_cases (c ∷ front) cs = More_script_cases c (before_cases front cs)

before_one : (front : List ScriptCase) (c : ScriptCase) (cs : ScriptCases) → before_cases front (More_script_cases c cs) ≡ before_cases (front ++ c ∷ []) cs
before_one [] c cs = refl
before_one (d ∷ front) c cs = ap (More_script_cases d) (before_one front c cs)

before_none : (front : List ScriptCase) → before_cases front No_script_cases ≡ script_cases_of front
before_none [] = refl
before_none (d ∷ front) = ap (More_script_cases d) (before_none front)

module _ {T : Type 0} where
  abbrev pub with_cases : List ScriptCase → Read T ScriptCases → Read T ScriptCases
  with_cases front read = read >>= λ x. Ok (before_cases front x.0, x.1)

  moved : (front : List ScriptCase) (c : ScriptCase) (r : Read T ScriptCases) → with_cases front (r >>= λ x. Ok (More_script_cases c x.0, x.1)) ≡ with_cases (front ++ c ∷ []) r
  moved front c (Ok x) = ap (λ l. Ok (l, x.1)) (before_one front c x.0)
  moved front c (Err e) = refl

  module _ (piece : T → Piece) (numbered : Bool) (walked : Walked) where
    one_is : (con : ℕ) (body : Body) (rest : Cases) (ts : List T) → walks walked con ≡ true →
        cases_by piece numbered walked (More_cases (The_case con body) rest) ts ≡ (case_by piece numbered body ts >>= λ c. cases_by piece numbered walked rest c.1 >>= λ cs. Ok (More_script_cases c.0 cs.0, cs.1))
    unfolding cases_by
    one_is con body rest ts e = ap (λ b. if b then (case_by piece numbered body ts >>= λ c. cases_by piece numbered walked rest c.1 >>= λ cs. Ok (More_script_cases c.0 cs.0, cs.1)) else cases_by piece numbered walked rest ts) e

    -- the next case has a script
    pub case_read : (con : ℕ) (body : Body) (rest : Cases) (front : List ScriptCase) (c : ScriptCase) (ts q : List T) → walks walked con ≡ true → case_by piece numbered body ts ≡ Ok (c, q) →
        with_cases front (cases_by piece numbered walked (More_cases (The_case con body) rest) ts) ≡ with_cases (front ++ c ∷ []) (cases_by piece numbered walked rest q)
    case_read con body rest front c ts q e one =
        ap (with_cases front) (one_is con body rest ts e ∙ ap (λ r. r >>= λ c. cases_by piece numbered walked rest c.1 >>= λ cs. Ok (More_script_cases c.0 cs.0, cs.1)) one) ∙ moved front c (cases_by piece numbered walked rest q)

    pub case_stopped : (con : ℕ) (body : Body) (rest : Cases) (front : List ScriptCase) (s : Stopped) (ts : List T) → walks walked con ≡ true → Stops s (case_by piece numbered body ts) →
        Stops s (with_cases front (cases_by piece numbered walked (More_cases (The_case con body) rest) ts))
    case_stopped con body rest front s ts e stop =
        stops_then s (cases_by piece numbered walked (More_cases (The_case con body) rest) ts) (λ x. Ok (before_cases front x.0, x.1))
        (stops_same s (case_by piece numbered body ts >>= λ c. cases_by piece numbered walked rest c.1 >>= λ cs. Ok (More_script_cases c.0 cs.0, cs.1)) (cases_by piece numbered walked (More_cases (The_case con body) rest) ts)
        (sym (one_is con body rest ts e)) (stops_then s (case_by piece numbered body ts) (λ c. cases_by piece numbered walked rest c.1 >>= λ cs. Ok (More_script_cases c.0 cs.0, cs.1)) stop))

    -- or it has none
    pub case_passed : (con : ℕ) (body : Body) (rest : Cases) (ts : List T) → walks walked con ≡ false → cases_by piece numbered walked (More_cases (The_case con body) rest) ts ≡ cases_by piece numbered walked rest ts
    unfolding cases_by
    case_passed con body rest ts e = ap (λ b. if b then (case_by piece numbered body ts >>= λ c. cases_by piece numbered walked rest c.1 >>= λ cs. Ok (More_script_cases c.0 cs.0, cs.1)) else cases_by piece numbered walked rest ts) e

    pub cases_done : (front : List ScriptCase) (ts : List T) → with_cases front (cases_by piece numbered walked No_cases ts) ≡ Ok (script_cases_of front, ts)
    unfolding cases_by
    cases_done front ts = ap (λ l. Ok (l, ts)) (before_none front)
