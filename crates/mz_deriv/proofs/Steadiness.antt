-- Walks don't look at the order of a state: what leads from one leads from each that is the same up to order, and what is
-- refused in one is refused in each.
use Rattle.std.proofs.Common.{◌≡◌, ℕ, List, [], ◌∷◌, refl, sym, ap, subst}
use Rattle.mz_tree.specs.Plain.{Atom}
use Rattle.mz_tree.specs.Code.{Command, Body, commands_in, brace_of}
use Rattle.mz_tree.specs.declared.types.Place.{Place}
use Rattle.mz_decl.specs.Declarations.{Decls}
use Rattle.mz_modes.specs.Affine.{AffineAtom}
use Rattle.mz_perm.specs.Lists.{SameUpToOrder}
use Rattle.mz_perm.specs.Using.{UsesUpAll}
use Rattle.mz_perm.proofs.Orders.{perm_refl, perm_sym, all_same}
use Rattle.mz_deriv.specs.Scripts.{Item, No_script_cases}
use Rattle.mz_deriv.specs.Rules.{Branch}
use Rattle.mz_deriv.specs.Walks.{Walks, Walk_ends, Walk_step, Walk_does, Walk_branches, BranchesWalk, No_branch_walks, Branch_walks, joined}
use Rattle.mz_deriv.specs.Refused.{Made_by_rule, Made_in_branches, Refuses, Step_refused, Step_passed, Do_missing, Do_left, Do_refused, Do_passed, Join_refused, Branch_refused, Branches_passed, BranchesRefuse, Inside_refused, End_refused, Later_refused}
use Rattle.mz_deriv.specs.Laws.{WalksAlike}
use Rattle.mz_deriv.specs.declared.fault.DerivFault.{DerivFault}
use Rattle.mz_deriv.specs.declared.fault.DerivFault.TheVariants.{BadJoin}
use Rattle.mz_deriv.proofs.RuleOrders.{Orders, does_order, does_alike, step_alike}
use Rattle.mz_deriv.proofs.Alike.{BranchesAlike, outer_alike, not_both, branches_other, branches_alike, made_alike}

-- a refusal inside a branch is one inside each branch with the same body and script
refuses_there : (D : Decls) (names : List ℕ) (R : List (Atom ℕ)) (fault : DerivFault) (body other : Body) (script items : List Item) → body ≡ other → script ≡ items →
    Refuses D names R (commands_in other) items (brace_of other) 0 fault → Refuses D names R (commands_in body) script (brace_of body) 0 fault
refuses_there D names R fault body other script items b s r = subst (λ z. Refuses D names R (commands_in z) script (brace_of z) 0 fault) (sym b) (subst (λ z. Refuses D names R (commands_in other) z (brace_of other) 0 fault) (sym s) r)

-- and so is a walk
walks_there : (D : Decls) (names : List ℕ) (R T : List (Atom ℕ)) (body other : Body) (script items : List Item) → body ≡ other → script ≡ items → Walks D names R (commands_in body) script T → Walks D names R (commands_in other) items T
walks_there D names R T body other script items b s w = subst (λ z. Walks D names R (commands_in other) z T) s (subst (λ z. Walks D names R (commands_in z) script T) b w)

-- the end of a branch uses up what that of one with the same body does
ends_there : (D : Decls) (c : Command) (join S T rest : List (Atom ℕ)) (body other : Body) → body ≡ other → SameUpToOrder S T → UsesUpAll (AffineAtom D) (joined c body join) S rest → (left : List (Atom ℕ)) × UsesUpAll (AffineAtom D) (joined c other join) T left
ends_there D c join S T rest body other b p u = let all = all_same (AffineAtom D) (joined c body join) S T rest p u in (all.0, subst (λ z. UsesUpAll (AffineAtom D) (joined c z join) T all.0) b all.1)

-- and its end stands at the same place
brace_same : (body other : Body) → body ≡ other → BadJoin (brace_of body) ≡ BadJoin (brace_of other)
brace_same body other b = ap (λ z. BadJoin (brace_of z)) b

module _ (o : Orders) (D : Decls) where
  mutual
    -- from a state that is the same the items lead on, each by the law of its rule
    pub walk_alike : {names : List ℕ} {R : List (Atom ℕ)} {commands : List Command} {items : List Item} {T : List (Atom ℕ)} (R' : List (Atom ℕ)) → SameUpToOrder R R' → Walks D names R commands items T → WalksAlike D names R' commands items T
    walk_alike R' p Walk_ends = record { last = R'; walks = Walk_ends; alike = p }
    walk_alike R' p (Walk_step {R = R} {S = S} {s = s} v w) =
        let l = o.view D R R' S s p v in
        let m = walk_alike l.after l.alike w in
        record { last = m.last; walks = Walk_step l.leads m.walks; alike = m.alike }
    walk_alike R' p (Walk_does {R = R} {S = S} {c = c} {uses = uses} d w) =
        let l = does_order o D R R' S c uses p d in
        let m = walk_alike l.after l.alike w in
        record { last = m.last; walks = Walk_does l.leads m.walks; alike = m.alike }
    walk_alike R' p (Walk_branches {names = names} {R = R} {T = T} {join = join} {c = c} {uses = uses} {cases = cases} {branches = branches} b k bs w) =
        let l = branches_other o D R R' c uses cases branches p b in
        record { last = T; walks = Walk_branches l.begin (outer_alike R R' names c join p k) (branches_walk l.those l.alike bs) w; alike = perm_refl T }

    branches_walk : {names : List ℕ} {c : Command} {join : List (Atom ℕ)} {branches : List Branch} (those : List Branch) → BranchesAlike branches those → BranchesWalk D names c join branches → BranchesWalk D names c join those
    branches_walk [] k No_branch_walks = No_branch_walks
    branches_walk (b ∷ those) k No_branch_walks = absurd k
    branches_walk [] k (Branch_walks rest w u more) = absurd k
    branches_walk (b ∷ those) k (Branch_walks {names = names} {c = c} {join = join} {last = last} rest {b = d} w u more) =
        let m = walk_alike b.start k.0 w in
        let n = ends_there D c join last m.last rest d.body b.body k.1 m.alike u in
        Branch_walks n.0 (walks_there D names b.start m.last d.body b.body d.script b.script k.1 k.2 m.walks) n.1 (branches_walk those k.3 more)

  -- two walks over the same items end in states that are the same, if they begin so
  pub walks_alike : {names names' : List ℕ} {R : List (Atom ℕ)} {commands : List Command} {items : List Item} {T : List (Atom ℕ)} (R' T' : List (Atom ℕ)) → SameUpToOrder R R' → Walks D names R commands items T → Walks D names' R' commands items T' → SameUpToOrder T T'
  walks_alike R' T' p Walk_ends Walk_ends = p
  walks_alike R' T' p (Walk_step {R = R} {S = S} {s = s} v w) (Walk_step {S = S'} v' w') = walks_alike S' T' (step_alike o D R R' S S' s p v v') w w'
  walks_alike R' T' p (Walk_does {R = R} {S = S} {c = c} {uses = uses} d w) (Walk_does {S = S'} d' w') = walks_alike S' T' (does_alike o D R R' S S' c uses p d d') w w'
  walks_alike R' T' p (Walk_does {R = R} {S = S} {c = c} {uses = uses} d w) (Walk_branches {cases = cases} {branches = branches} b k bs w') = absurd (not_both D R R' S c uses cases branches d b)
  walks_alike R' T' p (Walk_branches {R = R} {c = c} {uses = uses} {cases = cases} {branches = branches} b k bs w) (Walk_does {S = S'} d' w') = absurd (not_both D R' R S' c uses cases branches d' b)
  walks_alike R' T' p (Walk_branches {join = join} b k bs w) (Walk_branches b' k' bs' w') = walks_alike join T' (perm_refl join) w w'

  mutual
    -- what is walked through isn't refused, from no state that is the same
    pub walked_not_refused : {names : List ℕ} {R : List (Atom ℕ)} {commands : List Command} {items : List Item} {T : List (Atom ℕ)} (R' : List (Atom ℕ)) {brace : Place} {made : ℕ} {fault : DerivFault} → SameUpToOrder R R' →
        Walks D names R commands items T → Refuses D names R' commands items brace made fault → ⊥
    walked_not_refused R' p Walk_ends r = elim r [ ]
    walked_not_refused R' p (Walk_step {R = R} {S = S} {s = s} v w) (Step_refused n) = let l = o.view D R R' S s p v in n l.after l.leads
    walked_not_refused R' p (Walk_step {R = R} {S = S} {s = s} v w) (Step_passed {S = S'} v' r) = walked_not_refused S' (step_alike o D R R' S S' s p v v') w r
    walked_not_refused R' p (Walk_does {R = R} {S = S} {c = c} {uses = uses} d w) (Do_refused n) = n (made_alike o D R R' c uses No_script_cases [] p (Made_by_rule S d))
    walked_not_refused R' p (Walk_does {R = R} {S = S} {c = c} {uses = uses} d w) (Do_passed {S = S'} d' r) = walked_not_refused S' (does_alike o D R R' S S' c uses p d d') w r
    walked_not_refused R' p (Walk_does {R = R} {S = S} {c = c} {uses = uses} d w) (Join_refused {cases = cases} branches b n) = not_both D R R' S c uses cases branches d b
    walked_not_refused R' p (Walk_does {R = R} {S = S} {c = c} {uses = uses} d w) (Branch_refused {cases = cases} {branches = branches} b k r) = not_both D R R' S c uses cases branches d b
    walked_not_refused R' p (Walk_does {R = R} {S = S} {c = c} {uses = uses} d w) (Branches_passed {cases = cases} {branches = branches} b k bs r) = not_both D R R' S c uses cases branches d b
    walked_not_refused R' p (Walk_branches {R = R} {join = join} {c = c} {uses = uses} {cases = cases} {branches = branches} b k bs w) (Do_refused n) = n (made_alike o D R R' c uses cases join p (Made_in_branches cases join branches b))
    walked_not_refused R' p (Walk_branches {R = R} {c = c} {uses = uses} {cases = cases} {branches = branches} b k bs w) (Do_passed {S = S'} d r) = not_both D R' R S' c uses cases branches d b
    walked_not_refused R' p (Walk_branches {names = names} {R = R} {join = join} {c = c} b k bs w) (Join_refused branches b' n) = n (outer_alike R R' names c join p k)
    walked_not_refused R' p (Walk_branches {R = R} {c = c} {uses = uses} {cases = cases} {branches = branches} b k bs w) (Branch_refused {branches = those} b' k' r) =
        branches_not_refused those (branches_alike o D R R' c uses cases branches those p b b') bs r
    walked_not_refused R' p (Walk_branches {join = join} b k bs w) (Branches_passed b' k' bs' r) = walked_not_refused join (perm_refl join) w r

    branches_not_refused : {names : List ℕ} {c : Command} {join : List (Atom ℕ)} {branches : List Branch} (those : List Branch) {fault : DerivFault} → BranchesAlike branches those →
        BranchesWalk D names c join branches → BranchesRefuse D names c join those fault → ⊥
    branches_not_refused [] a No_branch_walks r = elim r [ ]
    branches_not_refused (b ∷ those) a No_branch_walks r = absurd a
    branches_not_refused [] a (Branch_walks rest w u more) r = absurd a
    branches_not_refused (b ∷ those) {fault = fault} a (Branch_walks {names = names} rest {b = d} w u more) (Inside_refused r) =
        walked_not_refused b.start a.0 w (refuses_there D names b.start fault d.body b.body d.script b.script a.1 a.2 r)
    branches_not_refused (b ∷ those) a (Branch_walks {names = names} {c = c} {join = join} {last = last} rest {b = d} w u more) (End_refused {last = last'} w' n) =
        let same = walks_alike b.start last' a.0 (walks_there D names d.start last d.body b.body d.script b.script a.1 a.2 w) w' in
        let e = ends_there D c join last last' rest d.body b.body a.1 same u in
        n e.0 e.1
    branches_not_refused (b ∷ those) a (Branch_walks rest w u more) (Later_refused rest' w' u' r) = branches_not_refused those a.3 more r

  mutual
    -- what is refused from states that are the same is refused at one point
    pub refused_once : {names : List ℕ} {R : List (Atom ℕ)} {commands : List Command} {items : List Item} {brace : Place} {made : ℕ} {fault other : DerivFault} (R' : List (Atom ℕ)) → SameUpToOrder R R' →
        Refuses D names R commands items brace made fault → Refuses D names R' commands items brace made other → fault ≡ other
    refused_once R' p (Step_refused n) (Step_refused n') = refl
    refused_once R' p (Step_refused {R = R} {s = s} n) (Step_passed {S = S'} v' r) = let l = o.view D R' R S' s (perm_sym R R' p) v' in absurd (n l.after l.leads)
    refused_once R' p (Step_passed {R = R} {S = S} {s = s} v r) (Step_refused n') = let l = o.view D R R' S s p v in absurd (n' l.after l.leads)
    refused_once R' p (Step_passed {R = R} {S = S} {s = s} v r) (Step_passed {S = S'} v' r') = refused_once S' (step_alike o D R R' S S' s p v v') r r'
    refused_once R' p Do_missing Do_missing = refl
    refused_once R' p Do_left Do_left = refl
    refused_once R' p (Do_refused n) (Do_refused n') = refl
    refused_once R' p (Do_refused {R = R} {c = c} {uses = uses} n) (Do_passed {S = S'} d r) = absurd (n (made_alike o D R' R c uses No_script_cases [] (perm_sym R R' p) (Made_by_rule S' d)))
    refused_once R' p (Do_refused {R = R} {join = join} {c = c} {uses = uses} {cases = cases} n) (Join_refused branches b n') = absurd (n (made_alike o D R' R c uses cases join (perm_sym R R' p) (Made_in_branches cases join branches b)))
    refused_once R' p (Do_refused {R = R} {join = join} {c = c} {uses = uses} {cases = cases} n) (Branch_refused {branches = branches} b k r) = absurd (n (made_alike o D R' R c uses cases join (perm_sym R R' p) (Made_in_branches cases join branches b)))
    refused_once R' p (Do_refused {R = R} {join = join} {c = c} {uses = uses} {cases = cases} n) (Branches_passed {branches = branches} b k bs r) = absurd (n (made_alike o D R' R c uses cases join (perm_sym R R' p) (Made_in_branches cases join branches b)))
    refused_once R' p (Do_passed {R = R} {S = S} {c = c} {uses = uses} d r) (Do_refused n') = absurd (n' (made_alike o D R R' c uses No_script_cases [] p (Made_by_rule S d)))
    refused_once R' p (Do_passed {R = R} {S = S} {c = c} {uses = uses} d r) (Do_passed {S = S'} d' r') = refused_once S' (does_alike o D R R' S S' c uses p d d') r r'
    refused_once R' p (Do_passed {R = R} {S = S} {c = c} {uses = uses} d r) (Join_refused {cases = cases} branches b n) = absurd (not_both D R R' S c uses cases branches d b)
    refused_once R' p (Do_passed {R = R} {S = S} {c = c} {uses = uses} d r) (Branch_refused {cases = cases} {branches = branches} b k r') = absurd (not_both D R R' S c uses cases branches d b)
    refused_once R' p (Do_passed {R = R} {S = S} {c = c} {uses = uses} d r) (Branches_passed {cases = cases} {branches = branches} b k bs r') = absurd (not_both D R R' S c uses cases branches d b)
    refused_once R' p (Join_refused {R = R} {join = join} {c = c} {uses = uses} {cases = cases} branches b n) (Do_refused n') = absurd (n' (made_alike o D R R' c uses cases join p (Made_in_branches cases join branches b)))
    refused_once R' p (Join_refused {R = R} {c = c} {uses = uses} {cases = cases} branches b n) (Do_passed {S = S'} d r) = absurd (not_both D R' R S' c uses cases branches d b)
    refused_once R' p (Join_refused branches b n) (Join_refused those b' n') = refl
    refused_once R' p (Join_refused {names = names} {R = R} {join = join} {c = c} branches b n) (Branch_refused b' k r) = absurd (n (outer_alike R' R names c join (perm_sym R R' p) k))
    refused_once R' p (Join_refused {names = names} {R = R} {join = join} {c = c} branches b n) (Branches_passed b' k bs r) = absurd (n (outer_alike R' R names c join (perm_sym R R' p) k))
    refused_once R' p (Branch_refused {R = R} {join = join} {c = c} {uses = uses} {cases = cases} {branches = branches} b k r) (Do_refused n') = absurd (n' (made_alike o D R R' c uses cases join p (Made_in_branches cases join branches b)))
    refused_once R' p (Branch_refused {R = R} {c = c} {uses = uses} {cases = cases} {branches = branches} b k r) (Do_passed {S = S'} d r') = absurd (not_both D R' R S' c uses cases branches d b)
    refused_once R' p (Branch_refused {names = names} {R = R} {join = join} {c = c} b k r) (Join_refused those b' n) = absurd (n (outer_alike R R' names c join p k))
    refused_once R' p (Branch_refused {R = R} {c = c} {uses = uses} {cases = cases} {branches = branches} b k r) (Branch_refused {branches = those} b' k' r') =
        branches_refused_once those (branches_alike o D R R' c uses cases branches those p b b') r r'
    refused_once R' p (Branch_refused {R = R} {c = c} {uses = uses} {cases = cases} {branches = branches} b k r) (Branches_passed {branches = those} b' k' bs' r') =
        absurd (branches_not_refused branches (branches_alike o D R' R c uses cases those branches (perm_sym R R' p) b' b) bs' r)
    refused_once R' p (Branches_passed {R = R} {join = join} {c = c} {uses = uses} {cases = cases} {branches = branches} b k bs r) (Do_refused n') = absurd (n' (made_alike o D R R' c uses cases join p (Made_in_branches cases join branches b)))
    refused_once R' p (Branches_passed {R = R} {c = c} {uses = uses} {cases = cases} {branches = branches} b k bs r) (Do_passed {S = S'} d r') = absurd (not_both D R' R S' c uses cases branches d b)
    refused_once R' p (Branches_passed {names = names} {R = R} {join = join} {c = c} b k bs r) (Join_refused those b' n) = absurd (n (outer_alike R R' names c join p k))
    refused_once R' p (Branches_passed {R = R} {c = c} {uses = uses} {cases = cases} {branches = branches} b k bs r) (Branch_refused {branches = those} b' k' r') =
        absurd (branches_not_refused those (branches_alike o D R R' c uses cases branches those p b b') bs r')
    refused_once R' p (Branches_passed {join = join} b k bs r) (Branches_passed b' k' bs' r') = refused_once join (perm_refl join) r r'

    branches_refused_once : {names : List ℕ} {c : Command} {join : List (Atom ℕ)} {branches : List Branch} {fault other : DerivFault} (those : List Branch) → BranchesAlike branches those →
        BranchesRefuse D names c join branches fault → BranchesRefuse D names c join those other → fault ≡ other
    branches_refused_once [] a r r' = elim r' [ ]
    branches_refused_once {other = other} (b ∷ those) a (Inside_refused {names = names} {b = d} r) (Inside_refused r') =
        refused_once b.start a.0 r (refuses_there D names b.start other d.body b.body d.script b.script a.1 a.2 r')
    branches_refused_once (b ∷ those) a (Inside_refused {names = names} {b = d} r) (End_refused {last = last} w n) =
        absurd (walked_not_refused d.start (perm_sym d.start b.start a.0) (walks_there D names b.start last b.body d.body b.script d.script (sym a.1) (sym a.2) w) r)
    branches_refused_once (b ∷ those) a (Inside_refused {names = names} {b = d} r) (Later_refused {last = last} rest w u r') =
        absurd (walked_not_refused d.start (perm_sym d.start b.start a.0) (walks_there D names b.start last b.body d.body b.script d.script (sym a.1) (sym a.2) w) r)
    branches_refused_once {other = other} (b ∷ those) a (End_refused {names = names} {b = d} w n) (Inside_refused r') =
        absurd (walked_not_refused b.start a.0 w (refuses_there D names b.start other d.body b.body d.script b.script a.1 a.2 r'))
    branches_refused_once (b ∷ those) a (End_refused {c = c} {b = d} w n) (End_refused w' n') = brace_same d.body b.body a.1
    branches_refused_once (b ∷ those) a (End_refused {names = names} {c = c} {join = join} {last = last} {b = d} w n) (Later_refused {last = last'} rest w' u r') =
        let same = walks_alike d.start last (perm_sym d.start b.start a.0) (walks_there D names b.start last' b.body d.body b.script d.script (sym a.1) (sym a.2) w') w in
        let e = ends_there D c join last' last rest b.body d.body (sym a.1) same u in
        absurd (n e.0 e.1)
    branches_refused_once {other = other} (b ∷ those) a (Later_refused {names = names} rest {b = d} w u r) (Inside_refused r') =
        absurd (walked_not_refused b.start a.0 w (refuses_there D names b.start other d.body b.body d.script b.script a.1 a.2 r'))
    branches_refused_once (b ∷ those) a (Later_refused {names = names} {c = c} {join = join} {last = last} rest {b = d} w u r) (End_refused {last = last'} w' n) =
        let same = walks_alike b.start last' a.0 (walks_there D names d.start last d.body b.body d.script b.script a.1 a.2 w) w' in
        let e = ends_there D c join last last' rest d.body b.body a.1 same u in
        absurd (n e.0 e.1)
    branches_refused_once (b ∷ those) a (Later_refused rest w u r) (Later_refused rest' w' u' r') = branches_refused_once those a.3 r r'
