-- A script that leads through a body, from permissions that can be written, is one that can be written.
use Rattle.std.proofs.Common.{◌≡◌, ◌≢◌, inl, inr, ℕ, suc, ◌≤◌, List, [], ◌∷◌, Option, Some, None, slice_get, refl, sym, ap, ◌∙◌, subst, arith}
use Rattle.std.specs.Prelude.{IfSome}
use Rattle.mz_tree.specs.Plain.{Atom, Named_type, Block_type, Has_atom, Same_atom, map_atom}
use Rattle.mz_tree.specs.Programs.{Need, Sig, Fun, Program}
use Rattle.mz_tree.specs.Code.{Op, Command, Body, If_op, Match_op, to_of, op_of, con_of, commands_in, result_of}
use Rattle.mz_tree.specs.Scoped.{IsBound, names_below, names_after, IsBody, Scoped}
use Rattle.mz_decl.specs.Declarations.{decls_of}
use Rattle.mz_decl.proofs.Adopters.{some_is}
use Rattle.mz_decl.specs.Signatures.{parameters, needed}
use Rattle.mz_modes.specs.Affine.{AffineAtom}
use Rattle.mz_perm.specs.Lists.{In, Any_copy}
use Rattle.mz_perm.specs.Using.{UsesUpAll}
use Rattle.mz_perm.proofs.Orders.{used_in}
use Rattle.mz_flow.specs.Branches.{walked_bodies, StartsBy}
use Rattle.mz_deriv.specs.Scripts.{Item, ItemChain, ScriptCases, No_items, More_items, Script_case, No_script_cases, More_script_cases, item_list}
use Rattle.mz_deriv.specs.Rules.{Branch, BeginEach}
use Rattle.mz_deriv.specs.Walks.{NamesOuter, in_place_of, joined, Walks, Walk_ends, Walk_step, Walk_does, Walk_branches, BranchesWalk, No_branch_walks, Branch_walks}
use Rattle.mz_deriv.specs.Spelled.{IsNumber, IsWritable, has_number, NumberFits, Spelled, Spelled_end, Spelled_step, Spelled_do, Spelled_branches, CasesSpelled, Cases_end, Case_spelled}
use Rattle.mz_deriv.specs.Numbers.{ChainNumbers, CaseNumbers, AreNumbers}
use Rattle.mz_deriv.proofs.Forking.{rule_is_straight, fork_branches}
use Rattle.mz_deriv.proofs.Membership.{in_get, get_in, in_image, image_in, in_names_from, all_used_in}
use Rattle.mz_deriv.proofs.Written.{Written, AllWritten, AllNumbers, writable, written_from, written_back, opens_written}
use Rattle.mz_deriv.proofs.WrittenNames.{occurs_in, occurring_number}
use Rattle.mz_deriv.proofs.WrittenBodies.{AreRead, BodyRead, BodiesRead, to_number, op_read, body_commands, command_bodies, first_names}
use Rattle.mz_deriv.proofs.WrittenSteps.{step_written}
use Rattle.mz_deriv.proofs.WrittenRules.{rule_written}

-- the numbers of a chain of items are those of its list
chain_numbers : (items : ItemChain) → ChainNumbers items → AreNumbers (item_list items)
chain_numbers No_items h = tt
chain_numbers (More_items i rest) h = (h.0, chain_numbers rest h.1)

module _ (p : Program) (s : Scoped p) (spelling : List (List ℕ)) where
  -- a branch that is ready to be walked: what it begins with can be written, its body is read, and its script has numbers
  record IsReady (b : Branch) : Type 0 where
    start : AllWritten p b.start
    body : BodyRead p spelling b.body
    script : AreNumbers b.script

  abbrev AreReady : List Branch → Type 0
  AreReady branches = (b : Branch) → In b branches → IsReady b

  -- the state in which a branch starts, and what the command uses
  starts_written : (R : List (Atom ℕ)) (op : Op) (uses : Option (Atom ℕ)) (k fresh : ℕ) (S : List (Atom ℕ)) → StartsBy Any_copy (decls_of p) R op uses k fresh S → AllWritten p R → IfSome uses (IsWritable p) × AllWritten p S
  starts_written R (If_op y one two giving) None k fresh S t all = (tt, subst (AllWritten p) (sym t.same) all)
  starts_written R (If_op y one two giving) (Some a) k fresh S t all = absurd t
  starts_written R (Match_op y d cases giving) None k fresh S t all = absurd t
  starts_written R (Match_op y d cases giving) (Some (Same_atom x z)) k fresh S t all = absurd t
  starts_written R (Match_op y d cases giving) (Some (Has_atom x (Block_type con fields adopts))) k fresh S t all =
      (writable p (Has_atom x (Block_type con fields adopts)) (all (Has_atom x (Block_type con fields adopts)) t.1.held), subst (AllWritten p) (sym t.1.same) all)
  starts_written R (Match_op y d cases giving) (Some (Has_atom x (Named_type n))) k fresh S t all =
      let o = t.1.opens in
      let w = all (Has_atom y (Named_type d)) (used_in (AffineAtom (decls_of p)) (Has_atom y (Named_type d)) R o.rest o.used) in
      let same : Has_atom x (Named_type n) ≡ Has_atom y (Named_type d) = subst (λ z. Has_atom x (Named_type n) ≡ Has_atom z (Named_type d)) t.0 (ap (λ m. Has_atom x (Named_type m)) t.1.same_type) in
      (writable p (Has_atom x (Named_type n)) (subst (Written p) (sym same) w), opens_written p s R y d (con_of t.1.case) fresh S o all)
  starts_written R (Match_op y d cases giving) (Some (Has_atom x t')) k fresh S t all = absurd t.1
  starts_written R op uses k fresh S t all = absurd t

  -- a case has a number of its own just where its branch opens the block
  number_fits : (R : List (Atom ℕ)) (op : Op) (uses : Option (Atom ℕ)) (k fresh : ℕ) (S : List (Atom ℕ)) → StartsBy Any_copy (decls_of p) R op uses k fresh S → IsNumber fresh → NumberFits (has_number op uses) fresh
  number_fits R (If_op y one two giving) None k fresh S t h = t.no_name
  number_fits R (If_op y one two giving) (Some a) k fresh S t h = absurd t
  number_fits R (Match_op y d cases giving) None k fresh S t h = absurd t
  number_fits R (Match_op y d cases giving) (Some (Same_atom x z)) k fresh S t h = absurd t
  number_fits R (Match_op y d cases giving) (Some (Has_atom x (Block_type con fields adopts))) k fresh S t h = t.1.no_name
  number_fits R (Match_op y d cases giving) (Some (Has_atom x t')) k fresh S t h = h
  number_fits R op uses k fresh S t h = absurd t

  -- each branch is ready
  each_ready : (R : List (Atom ℕ)) (c : Command) (uses : Option (Atom ℕ)) (k : ℕ) (bodies : List Body) (cases : ScriptCases) (branches : List Branch) → BeginEach (decls_of p) R c uses k bodies cases branches →
      AllWritten p R → BodiesRead p spelling bodies → CaseNumbers cases → AreReady branches
  each_ready R c uses k [] No_script_cases branches e all r h b i = absurd (subst (λ l. In b l) e i)
  each_ready R c uses k [] (More_script_cases case cases) branches e all r h b i = absurd e
  each_ready R c uses k (body ∷ bodies) No_script_cases branches e all r h b i = absurd e
  each_ready R c uses k (body ∷ bodies) (More_script_cases (Script_case fresh items) cases) branches e all r h b i = elim (subst (λ l. In b l) e.3 i) [
    | inl same ↦ subst IsReady (sym same) (record { start = (starts_written R (op_of c) uses k fresh e.0 e.2.starts all).1; body = r body (inl refl); script = chain_numbers items h.0.1 })
    | inr j ↦ each_ready R c uses (suc k) bodies cases e.1 e.4 all (λ d m. r d (inr m)) h.1 b j
  ]

  -- the scripts of branches have the form of scripts
  abbrev AreSpelled : List Branch → Type 0
  AreSpelled branches = (b : Branch) → In b branches → Spelled p (commands_in b.body) b.script

  cases_spelled : (R : List (Atom ℕ)) (c : Command) (uses : Option (Atom ℕ)) (k : ℕ) (bodies : List Body) (cases : ScriptCases) (branches : List Branch) → BeginEach (decls_of p) R c uses k bodies cases branches → CaseNumbers cases → AreSpelled branches →
      CasesSpelled p (has_number (op_of c) uses) bodies cases
  cases_spelled R c uses k [] No_script_cases branches e h f = Cases_end
  cases_spelled R c uses k [] (More_script_cases case cases) branches e h f = absurd e
  cases_spelled R c uses k (body ∷ bodies) No_script_cases branches e h f = absurd e
  cases_spelled R c uses k (body ∷ bodies) (More_script_cases (Script_case fresh items) cases) branches e h f =
      let g = subst AreSpelled e.3 f in
      Case_spelled (number_fits R (op_of c) uses k fresh e.0 e.2.starts h.0.0) (g (record { start = e.0; body = body; script = item_list items }) (inl refl)) (cases_spelled R c uses (suc k) bodies cases e.1 e.4 h.1 (λ b i. g b (inr i)))

  -- the first of the branches
  first_of : (R : List (Atom ℕ)) (c : Command) (uses : Option (Atom ℕ)) (k : ℕ) (bodies : List Body) (cases : ScriptCases) (branches : List Branch) → BeginEach (decls_of p) R c uses k bodies cases branches → bodies ≢ [] → AllWritten p R →
      ((b : Branch) × In b branches) × IfSome uses (IsWritable p)
  first_of R c uses k [] cases branches e n all = absurd (n refl)
  first_of R c uses k (body ∷ bodies) No_script_cases branches e n all = absurd e
  first_of R c uses k (body ∷ bodies) (More_script_cases (Script_case fresh items) cases) branches e n all =
      let b : Branch = record { start = e.0; body = body; script = item_list items } in
      ((b, subst (λ l. In b l) (sym e.3) (inl refl)), (starts_written R (op_of c) uses k fresh e.0 e.2.starts all).0)

  -- a join whose names are known outside, and that the end of a branch uses up
  join_written : (names : List ℕ) (R : List (Atom ℕ)) (c : Command) (body : Body) (join last rest : List (Atom ℕ)) → NamesOuter names R c join → UsesUpAll (AffineAtom (decls_of p)) (joined c body join) last rest →
      AllWritten p last → AllWritten p R → AllNumbers names → IsNumber (to_of c) → AllWritten p join
  join_written names R c body join last rest o u all before k h a i =
      written_back p (in_place_of (to_of c) (result_of body)) a
      (all (map_atom (in_place_of (to_of c) (result_of body)) a) (all_used_in (AffineAtom (decls_of p)) (joined c body join) (map_atom (in_place_of (to_of c) (result_of body)) a) last rest u (image_in (map_atom (in_place_of (to_of c) (result_of body))) a join i)))
      (λ n j. elim (o n (occurs_in n a join i j)) [
        | inl e ↦ subst IsNumber (sym e) h
        | inr known ↦ (elim known [ inl b ↦ k n b | inr made ↦ occurring_number p n R before made.1 ])
      ])

  more_numbers : (n : ℕ) (names : List ℕ) → IsNumber n → AllNumbers names → AllNumbers (n ∷ names)
  more_numbers n names h k m (inl e) = subst IsNumber (sym e) h
  more_numbers n names h k m (inr i) = k m i

  mutual
    -- what leads on is spelled, and leads to what can be written
    pub walk_spelled : {names : List ℕ} {R : List (Atom ℕ)} {commands : List Command} {items : List Item} {T : List (Atom ℕ)} → Walks (decls_of p) names R commands items T → AllWritten p R → AllNumbers names → AreRead p spelling commands → AreNumbers items →
        Spelled p commands items × AllWritten p T
    walk_spelled Walk_ends all k r h = (Spelled_end, all)
    walk_spelled (Walk_step {R = R} {S = S} {s = step} v w) all k r h =
        let f = step_written p s step R S v all h.0 in
        let m = walk_spelled w f.1 k r h.1 in
        (Spelled_step f.0 m.0, m.1)
    walk_spelled (Walk_does {names = names} {R = R} {S = S} {c = c} {uses = uses} d w) all k r h =
        let one = r c (inl refl) in
        let n = to_number p spelling c one in
        let f = rule_written p s spelling one.scope one.before (to_of c) (op_of c) uses R S d.rule all n one.bound (op_read p spelling c one) in
        let m = walk_spelled w f.1 (more_numbers (to_of c) names n k) (λ z i. r z (inr i)) h.1 in
        (Spelled_do (rule_is_straight (decls_of p) R (to_of c) (op_of c) uses S d.rule) f.0 m.0, m.1)
    walk_spelled (Walk_branches {names = names} {R = R} {join = join} {c = c} {uses = uses} {cases = cases} {branches = branches} b o bs w) all k r h =
        let one = r c (inl refl) in
        let n = to_number p spelling c one in
        let bodies = walked_bodies (op_of c) uses in
        let ready = each_ready R c uses 0 bodies cases branches b.begin all (command_bodies p spelling c uses one) h.0 in
        let first = first_of R c uses 0 bodies cases branches b.begin b.some all in
        let each = branches_spelled R bs o ready k all n in
        let join_is = each.1 first.0.0 first.0.1 in
        let m = walk_spelled w join_is (more_numbers (to_of c) names n k) (λ z i. r z (inr i)) h.1 in
        (Spelled_branches (fork_branches (op_of c) uses b.some) first.1 (λ i a e. writable p a (join_is a (get_in join i a e))) (cases_spelled R c uses 0 bodies cases branches b.begin h.0 each.0) m.0, m.1)

    -- so is each branch, and each leads to the join
    branches_spelled : (R : List (Atom ℕ)) {names : List ℕ} {c : Command} {join : List (Atom ℕ)} {branches : List Branch} → BranchesWalk (decls_of p) names c join branches → NamesOuter names R c join → AreReady branches → AllNumbers names → AllWritten p R → IsNumber (to_of c) →
        AreSpelled branches × ((b : Branch) → In b branches → AllWritten p join)
    branches_spelled R No_branch_walks o ready k all n = ((λ b i. absurd i), (λ b i. absurd i))
    branches_spelled R (Branch_walks {names = names} {c = c} {join = join} {last = last} rest {b = b} w u more) o ready k all n =
        let d = ready b (inl refl) in
        let m = walk_spelled w d.start k (body_commands p spelling b.body d.body) d.script in
        let join_is = join_written names R c b.body join last rest o u m.1 all k n in
        let q = branches_spelled R more o (λ z i. ready z (inr i)) k all n in (
          (λ z i. elim i [ inl e ↦ subst (λ y. Spelled p (commands_in y.body) y.script) (sym e) m.0 | inr j ↦ q.0 z j ]),
          (λ z i. join_is),
        )

-- a script that leads through the body of a function, as its signature says, is spelled
pub fun_spelled : (p : Program) → Scoped p → (k : ℕ) (f : Fun) (sig : Sig) (script : List Item) (T : List (Atom ℕ)) → slice_get p.funs k ≡ Some f → slice_get p.sigs f.sig ≡ Some sig → AreNumbers script →
    Walks (decls_of p) (parameters sig) (needed sig.needs) (commands_in f.body) script T → Spelled p (commands_in f.body) script
fun_spelled p s k f sig script T e g h w =
    let fun = s.funs k f e in
    let of_sig = s.sigs f.sig sig g in
    let few = of_sig.few in
    let same : fun.sig ≡ sig = some_is fun.sig sig (sym fun.signed ∙ g) in
    let read : BodyRead p f.spelling f.body = record {
      scope = names_below sig.count;
      before = sig.count;
      bound = first_names sig.count (omega (arith, few));
      read = subst (λ (q : Sig). IsBody p f.spelling (names_below q.count) q.count f.body) same fun.body;
      few = subst (λ (q : Sig). names_after q.count f.body ≤ 256) same (subst (λ n. n ≤ 256) fun.spelled fun.few);
    } in
    (walk_spelled p s f.spelling w
    (λ a i. (
    let r = in_image (λ (n : Need). n.atom) a sig.needs i in
    let q = in_get r.0 sig.needs r.1 in
    let z = of_sig.needs q.0 r.0 q.1 in
    subst (Written p) (sym r.2) (written_from p (IsBound (names_below sig.count)) r.0.atom z.0 z.1 (λ n b. first_names sig.count (omega (arith, few)) n b))
    ))
    (λ n i. (let l = in_names_from n 0 sig.count i in omega (arith, l, few)))
    (body_commands p f.spelling f.body read) h).0
