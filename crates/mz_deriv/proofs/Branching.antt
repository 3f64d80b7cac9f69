-- The branches of a command, one after the other: what holds of each holds of all.
use Rattle.std.proofs.Common.{◌≡◌, inl, inr, ℕ, zero, suc, ◌+◌, ◌<◌, List, [], ◌∷◌, length, Option, Some, None, Err, slice_get, refl, sym, ap, ◌∙◌, subst, arith}
use Rattle.std.proofs.lemmas.Bool.{cases_eq}
use Rattle.std.proofs.lemmas.Option.{slice_get_within}
use Rattle.mz_tree.specs.Plain.{Atom}
use Rattle.mz_tree.specs.Code.{Command, Body, commands_in, op_of}
use Rattle.mz_decl.specs.Declarations.{Decls}
use Rattle.mz_decl.proofs.Adopters.{some_is}
use Rattle.mz_modes.specs.Affine.{AffineAtom}
use Rattle.mz_perm.specs.Lists.{Any_copy}
use Rattle.mz_perm.specs.Using.{UsesUpAll}
use Rattle.mz_flow.specs.Branches.{walked_bodies, Begins}
use Rattle.mz_flow.specs.Starting.{BeginsSome}
use Rattle.mz_deriv.specs.Scripts.{Item, ScriptCases, No_script_cases, item_list, items_of, script_cases_of}
use Rattle.mz_deriv.specs.View.{plain_script, plain_script_cases}
use Rattle.mz_deriv.specs.Rules.{Branch, BeginEach, Branches}
use Rattle.mz_deriv.specs.Walks.{joined, Walks, BranchesWalk, No_branch_walks, Branch_walks}
use Rattle.mz_deriv.specs.Refused.{BranchesRefuse, Later_refused}
use Rattle.mz_deriv.specs.declared.script.ScriptCase.{ScriptCase as CodeCase}
use Rattle.mz_deriv.specs.Parts.{SameNames, BranchLeads, BranchesLead}
use Rattle.mz_deriv.specs.declared.fault.DerivFault.{DerivFault}
use Rattle.mz_deriv.specs.declared.fault.DerivFault.TheVariants.{BadStep, BadCommand, BadJoin, Memory}

-- the cases as the definitions have them
abbrev pub cases_seen : List CodeCase → ScriptCases
cases_seen cases = script_cases_of (plain_script_cases cases)

-- branch k is walked through, from a state in which it begins, and its end uses up the join
pub record BranchPasses (D : Decls) (names : List ℕ) (R : List (Atom ℕ)) (c : Command) (uses : Option (Atom ℕ)) (k fresh : ℕ) (body : Body) (script : List Item) (join : List (Atom ℕ)) : Type 0 where
  pub start : List (Atom ℕ)
  pub begins : Begins Any_copy D R c uses k fresh body start
  pub last : List (Atom ℕ)
  pub walks : Walks D names start (commands_in body) script last
  pub rest : List (Atom ℕ)
  pub ends : UsesUpAll (AffineAtom D) (joined c body join) last rest

-- or it has the first point without an instance, whatever branches follow
pub record BranchStops (D : Decls) (names : List ℕ) (R : List (Atom ℕ)) (c : Command) (uses : Option (Atom ℕ)) (k fresh : ℕ) (body : Body) (script : List Item) (join : List (Atom ℕ)) (fault : DerivFault) : Type 0 where
  pub start : List (Atom ℕ)
  pub begins : Begins Any_copy D R c uses k fresh body start
  pub refused : (later : List Branch) → BranchesRefuse D names c join (record { start = start; body = body; script = script } ∷ later) fault

-- items as a chain and back are the same items
pub listed : (items : List Item) → item_list (items_of items) ≡ items
listed [] = refl
listed (i ∷ items) = ap (λ l. i ∷ l) (listed items)

-- a branch with the script of a case
abbrev pub branch_of : List (Atom ℕ) → Body → CodeCase → Branch
branch_of start body x = record { start = start; body = body; script = item_list (items_of (plain_script x.body)) }

-- the next place counted from the front is the same place counted from the next
next_place_of : (j m : ℕ) → j + suc m ≡ suc j + m
next_place_of j m = omega arith

none_some : {A : Type 0} (a : A) → None ≡ Some a → ⊥
none_some a e = absurd (cc)

module _ (D : Decls) (R : List (Atom ℕ)) (c : Command) (uses : Option (Atom ℕ)) where
  -- branch j begins in some state
  abbrev pub BeginsAt : ℕ → Body → CodeCase → Type 0
  BeginsAt j body x = (S : List (Atom ℕ)) × Begins Any_copy D R c uses j x.fresh body S

  -- where all branches begin, each does
  begin_at : (j : ℕ) (bodies : List Body) (cases : List CodeCase) (branches : List Branch) → BeginEach D R c uses j bodies (cases_seen cases) branches → (m : ℕ) (x : CodeCase) → slice_get cases m ≡ Some x →
      (b : Body) × (slice_get bodies m ≡ Some b) × BeginsAt (j + m) b x
  begin_at j [] [] branches e m x g = absurd (cc)
  begin_at j [] (y ∷ cases) branches e m x g = absurd e
  begin_at j (body ∷ bodies) [] branches e m x g = absurd e
  begin_at j (body ∷ bodies) (y ∷ cases) branches e zero x g =
      let same : y ≡ x = some_is y x g in
      let here : j ≡ j + 0 = omega arith in
      (body, refl, subst (λ n. BeginsAt n body x) here (subst (λ z. BeginsAt j body z) same (e.0, e.2)))
  begin_at j (body ∷ bodies) (y ∷ cases) branches e (suc m) x g =
      let r = begin_at (suc j) bodies cases e.1 e.4 m x g in
      (r.0, r.1, subst (λ n. BeginsAt n r.0 x) (sym (next_place_of j m)) r.2)

  pub branch_at : (cases : List CodeCase) (branches : List Branch) → Branches D R c uses (cases_seen cases) branches → (m : ℕ) (x : CodeCase) → slice_get cases m ≡ Some x → (b : Body) × (slice_get (walked_bodies (op_of c) uses) m ≡ Some b) × BeginsAt m b x
  branch_at cases branches b m x g =
      let r = begin_at 0 (walked_bodies (op_of c) uses) cases branches b.begin m x g in
      let here : 0 + m ≡ m = omega arith in
      (r.0, r.1, subst (λ n. BeginsAt n r.0 x) here r.2)

  -- there are as many bodies as cases
  as_many : (j : ℕ) (bodies : List Body) (cases : List CodeCase) (branches : List Branch) → BeginEach D R c uses j bodies (cases_seen cases) branches → length bodies ≡ length cases
  as_many j [] [] branches e = refl
  as_many j [] (y ∷ cases) branches e = absurd e
  as_many j (body ∷ bodies) [] branches e = absurd e
  as_many j (body ∷ bodies) (y ∷ cases) branches e = ap suc (as_many (suc j) bodies cases e.1 e.4)

  pub branches_many : (cases : List CodeCase) (branches : List Branch) → Branches D R c uses (cases_seen cases) branches → length (walked_bodies (op_of c) uses) ≡ length cases
  branches_many cases branches b = as_many 0 (walked_bodies (op_of c) uses) cases branches b.begin

  -- and at least one
  pub branches_some : (branches : List Branch) → Branches D R c uses No_script_cases branches → ⊥
  branches_some branches b = b.some (empty (walked_bodies (op_of c) uses) (branches_many [] branches b))
    where
      empty : (bodies : List Body) → length bodies ≡ 0 → bodies ≡ []
      empty [] e = refl
      empty (b ∷ bodies) e = absurd (cc)

  pub no_branches : (cases : List CodeCase) → length cases ≡ 0 → (branches : List Branch) → Branches D R c uses (cases_seen cases) branches → ⊥
  no_branches [] e branches b = branches_some branches b
  no_branches (x ∷ cases) e branches b = absurd (cc)

  -- where each begins, all do
  abbrev pub BeginsBelow : List CodeCase → ℕ → Type 0
  BeginsBelow cases k = (m : ℕ) → m < k → (x : CodeCase) → slice_get cases m ≡ Some x → (S : List (Atom ℕ)) × BeginsSome Any_copy D R c uses m x.fresh S

  pub begins_next : (cases : List CodeCase) (k : ℕ) (x : CodeCase) → slice_get cases k ≡ Some x → (S : List (Atom ℕ)) → BeginsSome Any_copy D R c uses k x.fresh S → BeginsBelow cases k → BeginsBelow cases (k + 1)
  begins_next cases k x g S b below m l y e = elim (cases_eq m k) [
    | inl here ↦ (
        let same : x ≡ y = some_is x y (sym g ∙ ap (slice_get cases) (sym here) ∙ e) in
        (S, subst (λ n. BeginsSome Any_copy D R c uses n y.fresh S) (sym here) (subst (λ (z : CodeCase). BeginsSome Any_copy D R c uses k z.fresh S) same b))
        )
    | inr other ↦ below m (omega (arith, l, other)) y e
  ]

  begin_all : (j : ℕ) (bodies : List Body) (cases : List CodeCase) → length bodies ≡ length cases → ((m : ℕ) (b : Body) → slice_get bodies m ≡ Some b → slice_get (walked_bodies (op_of c) uses) (j + m) ≡ Some b) →
      ((m : ℕ) (x : CodeCase) → slice_get cases m ≡ Some x → (S : List (Atom ℕ)) × BeginsSome Any_copy D R c uses (j + m) x.fresh S) → (branches : List Branch) × BeginEach D R c uses j bodies (cases_seen cases) branches
  begin_all j [] [] e w h = ([], refl)
  begin_all j [] (x ∷ cases) e w h = absurd (cc)
  begin_all j (body ∷ bodies) [] e w h = absurd (cc)
  begin_all j (body ∷ bodies) (x ∷ cases) e w h =
      let fewer : length bodies ≡ length cases = omega (arith, e) in
      let r = begin_all (suc j) bodies cases fewer (λ m b g. subst (λ n. slice_get (walked_bodies (op_of c) uses) n ≡ Some b) (next_place_of j m) (w (suc m) b g)) (λ m y g. subst (λ n. (S : List (Atom ℕ)) × BeginsSome Any_copy D R c uses n y.fresh S) (next_place_of j m) (h (suc m) y g)) in
      let here : j + 0 ≡ j = omega arith in
      let q = h 0 x refl in
      let one : Begins Any_copy D R c uses j x.fresh q.1.0 q.0 = subst (λ n. Begins Any_copy D R c uses n x.fresh q.1.0 q.0) here q.1.1 in
      let same : q.1.0 ≡ body = some_is q.1.0 body (sym one.walked ∙ subst (λ n. slice_get (walked_bodies (op_of c) uses) n ≡ Some body) here (w 0 body refl)) in
      (branch_of q.0 body x ∷ r.0, (q.0, r.0, subst (λ b. Begins Any_copy D R c uses j x.fresh b q.0) same one, refl, r.1))

  pub all_begin : (cases : List CodeCase) → length (walked_bodies (op_of c) uses) ≡ length cases → (length cases ≡ 0 → ⊥) → BeginsBelow cases (length cases) → (branches : List Branch) × Branches D R c uses (cases_seen cases) branches
  all_begin cases e n h =
      let at : (m : ℕ) → m ≡ 0 + m = λ m. omega arith in
      let r = begin_all 0 (walked_bodies (op_of c) uses) cases e (λ m b g. subst (λ k. slice_get (walked_bodies (op_of c) uses) k ≡ Some b) (at m) g) (λ m x g. subst (λ k. (S : List (Atom ℕ)) × BeginsSome Any_copy D R c uses k x.fresh S) (at m) (h m (slice_get_within cases m x g) x g)) in
      (r.0, record { some = λ z. n (sym e ∙ ap length z); begin = r.1 })

  -- ---- walks

  module _ (names : List ℕ) (join : List (Atom ℕ)) where
    -- branch j is walked through
    abbrev pub PassesAt : ℕ → Body → CodeCase → Type 0
    PassesAt j body x = BranchPasses D names R c uses j x.fresh body (plain_script x.body) join

    abbrev pub PassBelow : List CodeCase → ℕ → Type 0
    PassBelow cases k = (m : ℕ) → m < k → (b : Body) (x : CodeCase) → slice_get (walked_bodies (op_of c) uses) m ≡ Some b → slice_get cases m ≡ Some x → PassesAt m b x

    -- one more is
    pub pass_next : (cases : List CodeCase) (k : ℕ) (body : Body) (x : CodeCase) → slice_get (walked_bodies (op_of c) uses) k ≡ Some body → slice_get cases k ≡ Some x → PassBelow cases k → PassesAt k body x → PassBelow cases (k + 1)
    pass_next cases k body x w g below p m l b y v e = elim (cases_eq m k) [
      | inl here ↦ (
          let same : x ≡ y = some_is x y (sym g ∙ ap (slice_get cases) (sym here) ∙ e) in
          let body_is : body ≡ b = some_is body b (sym w ∙ ap (slice_get (walked_bodies (op_of c) uses)) (sym here) ∙ v) in
          subst (λ n. PassesAt n b y) (sym here) (subst (λ z. PassesAt k b z) same (subst (λ z. PassesAt k z x) body_is p))
          )
      | inr other ↦ below m (omega (arith, l, other)) b y v e
    ]

    walk_all : (j : ℕ) (bodies : List Body) (cases : List CodeCase) → length bodies ≡ length cases → ((m : ℕ) (b : Body) (x : CodeCase) → slice_get bodies m ≡ Some b → slice_get cases m ≡ Some x → PassesAt (j + m) b x) →
        (branches : List Branch) × BeginEach D R c uses j bodies (cases_seen cases) branches × BranchesWalk D names c join branches
    walk_all j [] [] e h = ([], refl, No_branch_walks)
    walk_all j [] (x ∷ cases) e h = absurd (cc)
    walk_all j (body ∷ bodies) [] e h = absurd (cc)
    walk_all j (body ∷ bodies) (x ∷ cases) e h =
        let fewer : length bodies ≡ length cases = omega (arith, e) in
        let here : j + 0 ≡ j = omega arith in
        let r = walk_all (suc j) bodies cases fewer (λ m b y v g. subst (λ n. PassesAt n b y) (next_place_of j m) (h (suc m) b y v g)) in
        let one = subst (λ n. PassesAt n body x) here (h 0 body x refl refl) in (
          branch_of one.start body x ∷ r.0,
          (one.start, r.0, one.begins, refl, r.1),
          Branch_walks one.rest (subst (λ s. Walks D names one.start (commands_in body) s one.last) (sym (listed (plain_script x.body))) one.walks) one.ends r.2,
        )

    pub all_walk : (cases : List CodeCase) (branches : List Branch) → Branches D R c uses (cases_seen cases) branches → PassBelow cases (length cases) → (those : List Branch) × Branches D R c uses (cases_seen cases) those × BranchesWalk D names c join those
    all_walk cases branches b h =
        let at : (m : ℕ) → m ≡ 0 + m = λ m. omega arith in
        let r = walk_all 0 (walked_bodies (op_of c) uses) cases (branches_many cases branches b) (λ m d x v g. subst (λ n. PassesAt n d x) (at m) (h m (slice_get_within cases m x g) d x v g)) in
        (r.0, record { some = b.some; begin = r.1 }, r.2)

    -- one is refused, and those before it are walked through
    stop_at : (fault : DerivFault) (j n : ℕ) (bodies : List Body) (cases : List CodeCase) (branches : List Branch) → BeginEach D R c uses j bodies (cases_seen cases) branches →
        ((m : ℕ) → m < n → (b : Body) (x : CodeCase) → slice_get bodies m ≡ Some b → slice_get cases m ≡ Some x → PassesAt (j + m) b x) →
        (b : Body) (x : CodeCase) → slice_get bodies n ≡ Some b → slice_get cases n ≡ Some x → BranchStops D names R c uses (j + n) x.fresh b (plain_script x.body) join fault →
        (those : List Branch) × BeginEach D R c uses j bodies (cases_seen cases) those × BranchesRefuse D names c join those fault
    stop_at fault j n [] [] branches e h b x v g s = absurd (cc)
    stop_at fault j n [] (y ∷ cases) branches e h b x v g s = absurd e
    stop_at fault j n (body ∷ bodies) [] branches e h b x v g s = absurd e
    stop_at fault j zero (body ∷ bodies) (y ∷ cases) branches e h b x v g s =
        let here : j + 0 ≡ j = omega arith in
        let case_is : x ≡ y = sym (some_is y x g) in
        let body_is : b ≡ body = sym (some_is body b v) in
        let t = subst (λ n. BranchStops D names R c uses n y.fresh body (plain_script y.body) join fault) here (subst (λ z. BranchStops D names R c uses (j + 0) y.fresh z (plain_script y.body) join fault) body_is (subst (λ (z : CodeCase). BranchStops D names R c uses (j + 0) z.fresh b (plain_script z.body) join fault) case_is s)) in (
          branch_of t.start body y ∷ e.1,
          (t.start, e.1, t.begins, refl, e.4),
          subst (λ l. BranchesRefuse D names c join (record { start = t.start; body = body; script = l } ∷ e.1) fault) (sym (listed (plain_script y.body))) (t.refused e.1),
        )
    stop_at fault j (suc n) (body ∷ bodies) (y ∷ cases) branches e h b x v g s =
        let here : j + 0 ≡ j = omega arith in
        let first : 0 < suc n = omega arith in
        let one = subst (λ m. PassesAt m body y) here (h 0 first body y refl refl) in
        let r = stop_at fault (suc j) n bodies cases e.1 e.4 (λ m l d z w q. (let below : suc m < suc n = omega (arith, l) in subst (λ i. PassesAt i d z) (next_place_of j m) (h (suc m) below d z w q))) b x v g (subst (λ i. BranchStops D names R c uses i x.fresh b (plain_script x.body) join fault) (next_place_of j n) s) in (
          branch_of one.start body y ∷ r.0,
          (one.start, r.0, one.begins, refl, r.1),
          Later_refused one.rest (subst (λ l. Walks D names one.start (commands_in body) l one.last) (sym (listed (plain_script y.body))) one.walks) one.ends r.2,
        )

    pub one_stops : (fault : DerivFault) (cases : List CodeCase) (branches : List Branch) (k : ℕ) (body : Body) (x : CodeCase) → Branches D R c uses (cases_seen cases) branches → slice_get (walked_bodies (op_of c) uses) k ≡ Some body → slice_get cases k ≡ Some x →
        PassBelow cases k → BranchStops D names R c uses k x.fresh body (plain_script x.body) join fault → (those : List Branch) × Branches D R c uses (cases_seen cases) those × BranchesRefuse D names c join those fault
    one_stops fault cases branches k body x b v g h s =
        let at : (m : ℕ) → m ≡ 0 + m = λ m. omega arith in
        let r = stop_at fault 0 k (walked_bodies (op_of c) uses) cases branches b.begin (λ m l d z w q. subst (λ n. PassesAt n d z) (at m) (h m l d z w q)) body x v g (subst (λ n. BranchStops D names R c uses n x.fresh body (plain_script x.body) join fault) (at k) s) in
        (r.0, record { some = b.some; begin = r.1 }, r.2)

  -- the answer for one branch that is refused is that for all
  stops_of : (bound : List ℕ) (join : List (Atom ℕ)) (cases : List CodeCase) (branches : List Branch) (k : ℕ) (body : Body) (x : CodeCase) → Branches D R c uses (cases_seen cases) branches → slice_get cases k ≡ Some x →
      ((names : List ℕ) → SameNames bound names → PassBelow names join cases k) → (start : List (Atom ℕ)) → Begins Any_copy D R c uses k x.fresh body start → (fault : DerivFault) →
      ((names : List ℕ) → SameNames bound names → (later : List Branch) → BranchesRefuse D names c join (record { start = start; body = body; script = plain_script x.body } ∷ later) fault) →
      (names : List ℕ) → SameNames bound names → (those : List Branch) × Branches D R c uses (cases_seen cases) those × BranchesRefuse D names c join those fault
  stops_of bound join cases branches k body x b g below start s fault r names h = one_stops names join fault cases branches k body x b s.walked g (below names h) (record { start = start; begins = s; refused = r names h })

  pub one_refused_at : (bound : List ℕ) (join : List (Atom ℕ)) (cases : List CodeCase) (branches : List Branch) (k : ℕ) (body : Body) (x : CodeCase) → Branches D R c uses (cases_seen cases) branches → slice_get cases k ≡ Some x →
      ((names : List ℕ) → SameNames bound names → PassBelow names join cases k) → (start : List (Atom ℕ)) → Begins Any_copy D R c uses k x.fresh body start → (fault : DerivFault) →
      BranchLeads {A = Unit {0}} D bound start c body (plain_script x.body) join (Err fault) → BranchesLead {A = Unit {0}} D bound R c uses (cases_seen cases) join (Err fault)
  one_refused_at bound join cases branches k body x b g below start s (BadStep p n) r = stops_of bound join cases branches k body x b g below start s (BadStep p n) r
  one_refused_at bound join cases branches k body x b g below start s (BadCommand p) r = stops_of bound join cases branches k body x b g below start s (BadCommand p) r
  one_refused_at bound join cases branches k body x b g below start s (BadJoin p) r = stops_of bound join cases branches k body x b g below start s (BadJoin p) r
  one_refused_at bound join cases branches k body x b g below start s Memory r = tt
