-- Which branch of a script belongs to the body that a command goes on in, and what its walk says: the bodies that are walked and
-- the script's cases stand in one order.
use Rattle.std.proofs.Common.{◌≡◌, ◌==◌, ℕ, zero, suc, ◌+◌, Bool, true, false, List, [], ◌∷◌, map, Option, Some, slice_get, refl, sym, ap, ◌∙◌, subst, arith}
use Rattle.std.proofs.lemmas.Bool.{eqb-true}
use Rattle.mz_tree.specs.Plain.{Atom}
use Rattle.mz_tree.specs.Code.{Op, Command, Case, Body, If_op, Match_op, op_of, con_of, body_of, op_branches, commands_in}
use Rattle.mz_decl.specs.Declarations.{Decls}
use Rattle.mz_perm.specs.Lists.{Any_copy}
use Rattle.mz_perm.specs.Using.{UsesUpAll}
use Rattle.mz_modes.specs.Affine.{AffineAtom}
use Rattle.mz_flow.specs.Branches.{walked_bodies, Begins}
use Rattle.mz_deriv.specs.Scripts.{ScriptCases, Script_case, No_script_cases, More_script_cases, item_list, ItemChain, script_case_list}
use Rattle.mz_deriv.specs.Rules.{Branch, BeginEach, Branches}
use Rattle.mz_deriv.specs.Walks.{joined, Walks, BranchesWalk}
use Rattle.mz_named.specs.Bodies.{body_in, body_for}
use Rattle.mz_resource.proofs.Facts.{some_inj, none_some}
use Rattle.mz_resource.proofs.Meaning.Spending.{true_false}
use Rattle.mz_resource.proofs.Threads.Standing.{one_branch}

-- the branch in this place of a script: its case, how it begins (at this number), and its walk to the join
pub record Entered (D : Decls) (R : List (Atom ℕ)) (c : Command) (uses : Option (Atom ℕ)) (cases : ScriptCases) (bound : List ℕ) (join : List (Atom ℕ)) (number place : ℕ) (body : Body) : Type 0 where
  pub fresh : ℕ
  pub inside : ItemChain
  pub case : slice_get (script_case_list cases) place ≡ Some (Script_case fresh inside)
  pub start : List (Atom ℕ)
  pub begins : Begins Any_copy D R c uses number fresh body start
  pub last : List (Atom ℕ)
  pub walks : Walks D bound start (commands_in body) (item_list inside) last
  pub left : List (Atom ℕ)
  pub used : UsesUpAll (AffineAtom D) (joined c body join) last left

-- a body that is walked has a branch of the script, in the same place
entered_from : (D : Decls) (R : List (Atom ℕ)) (c : Command) (uses : Option (Atom ℕ)) (bound : List ℕ) (join : List (Atom ℕ)) (k n : ℕ) (body : Body) (bodies : List Body) (cases : ScriptCases) (branches : List Branch) →
    BeginEach D R c uses k bodies cases branches → BranchesWalk D bound c join branches → slice_get bodies n ≡ Some body → Entered D R c uses cases bound join (k + n) n body
entered_from D R c uses bound join k n body [] cases branches each walk e = absurd (none_some refl e)
entered_from D R c uses bound join k n body (b ∷ bodies) No_script_cases branches each walk e = absurd each
entered_from D R c uses bound join k zero body (b ∷ bodies) (More_script_cases (Script_case fresh items) cases) branches each walk e =
    let here = one_branch (subst (λ l. BranchesWalk D bound c join l) each.3 walk) in
    let same : b ≡ body = some_inj e in
    let place : k ≡ k + 0 = omega arith in
    record {
      fresh = fresh;
      inside = items;
      case = refl;
      start = each.0;
      begins = subst (λ m. Begins Any_copy D R c uses m fresh body each.0) place (subst (λ z. Begins Any_copy D R c uses k fresh z each.0) same each.2);
      last = here.last;
      walks = subst (λ z. Walks D bound each.0 (commands_in z) (item_list items) here.last) same here.walks;
      left = here.left;
      used = subst (λ z. UsesUpAll (AffineAtom D) (joined c z join) here.last here.left) same here.uses;
    }
entered_from D R c uses bound join k (suc n) body (b ∷ bodies) (More_script_cases (Script_case fresh items) cases) branches each walk e =
    let here = one_branch (subst (λ l. BranchesWalk D bound c join l) each.3 walk) in
    let place : suc k + n ≡ k + suc n = omega arith in
    let t = entered_from D R c uses bound join (suc k) n body bodies cases each.1 each.4 here.others e in
    record { fresh = t.fresh; inside = t.inside; case = t.case; start = t.start; begins = subst (λ m. Begins Any_copy D R c uses m t.fresh body t.start) place t.begins; last = t.last; walks = t.walks; left = t.left; used = t.used }

-- the branch of a whole script
pub entered : (D : Decls) (R : List (Atom ℕ)) (c : Command) (uses : Option (Atom ℕ)) (bound : List ℕ) (join : List (Atom ℕ)) (n : ℕ) (body : Body) (bodies : List Body) (cases : ScriptCases) (branches : List Branch) →
    BeginEach D R c uses 0 bodies cases branches → BranchesWalk D bound c join branches → slice_get bodies n ≡ Some body → Entered D R c uses cases bound join n n body
entered D R c uses bound join n body bodies cases branches each walk e = subst (λ m. Entered D R c uses cases bound join m n body) from_zero (entered_from D R c uses bound join 0 n body bodies cases branches each walk e)
  where
    from_zero : 0 + n ≡ n
    from_zero = omega arith

-- there is a first branch
pub first_entered : (D : Decls) (R : List (Atom ℕ)) (c : Command) (uses : Option (Atom ℕ)) (bound : List ℕ) (join : List (Atom ℕ)) (cases : ScriptCases) (branches : List Branch) →
    Branches D R c uses cases branches → BranchesWalk D bound c join branches → (body : Body) × Entered D R c uses cases bound join 0 0 body
first_entered D R c uses bound join cases branches b walk = go (walked_bodies (op_of c) uses) refl
  where
    go : (bodies : List Body) → walked_bodies (op_of c) uses ≡ bodies → (body : Body) × Entered D R c uses cases bound join 0 0 body
    go [] e = absurd (b.some e)
    go (body ∷ bodies) e = (body, entered D R c uses bound join 0 body (body ∷ bodies) cases branches (subst (λ l. BeginEach D R c uses 0 l cases branches) e b.begin) walk refl)

-- the place of the case that the machine takes
pub record CaseFound (con : ℕ) (all : List Case) (body : Body) : Type 0 where
  pub place : ℕ
  pub case : Case
  pub is_case : slice_get all place ≡ Some case
  pub con_is : con_of case ≡ con
  pub body_is : body_of case ≡ body
  pub walked : slice_get (map body_of all) place ≡ Some body

pub case_found : (con : ℕ) (all : List Case) (body : Body) → body_for con all ≡ Some body → CaseFound con all body
case_found con [] body e = absurd (none_some refl e)
case_found con (k ∷ all) body e = by (con_of k == con) refl (λ q. case_found con all body q)
  where
    by : (b : Bool) → (con_of k == con) ≡ b → (body_for con all ≡ Some body → CaseFound con all body) → CaseFound con (k ∷ all) body
    by true q again =
        let same : body_of k ≡ body = some_inj (ap (λ z. body_in z (body_of k) (body_for con all)) (sym q) ∙ e) in
        record { place = 0; case = k; is_case = refl; con_is = eqb-true (con_of k) con q; body_is = same; walked = ap Some same }
    by false q again =
        let r = again (ap (λ z. body_in z (body_of k) (body_for con all)) (sym q) ∙ e) in
        record { place = suc r.place; case = r.case; is_case = r.is_case; con_is = r.con_is; body_is = r.body_is; walked = r.walked }

-- a command of another kind walks no body
pub straight_walks_none : (op : Op) (uses : Option (Atom ℕ)) → op_branches op ≡ false → walked_bodies op uses ≡ []
straight_walks_none (If_op y one two giving) uses e = absurd (true_false refl e)
straight_walks_none (Match_op y d all giving) uses e = absurd (true_false refl e)
straight_walks_none op uses e = refl
