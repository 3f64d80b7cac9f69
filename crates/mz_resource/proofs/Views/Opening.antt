-- The view rules that open and close blocks, and that give one a clause. An opened block gets new names for its fields; a fold,
-- or a clause, sets what an owned block adopts, which nobody else sees.
use Rattle.std.specs.Prelude.{if◌then◌else◌}
use Rattle.std.proofs.Common.{◌≡◌, ◌⊎◌, inl, inr, ℕ, zero, suc, ◌+◌, ◌-◌, ◌<◌, ◌≤◌, nat_eq, nat_lt, List, [], ◌∷◌, ◌++◌, length, map, Option, Some, None, slice_get, slice_index_or, true, false, refl, sym, ap, ◌∙◌, subst, arith}
use Rattle.std.proofs.lemmas.List.{map-append, length-map}
use Rattle.std.proofs.lemmas.Bool.{cases_eq, cases_lt}
use Rattle.std.proofs.lemmas.Bool.Decides.{nat_tests}
use Rattle.mz_tree.specs.Plain.{Atom, Named_type, Block_type, Has_atom, map_atom}
use Rattle.mz_tree.specs.Programs.{Con}
use Rattle.mz_decl.specs.Declarations.{Decls, clause_of}
use Rattle.mz_decl.specs.Contents.{contents, opened, names_from}
use Rattle.mz_perm.specs.Occurrence.{occurs}
use Rattle.mz_perm.specs.Lists.{Any_copy}
use Rattle.mz_modes.specs.Affine.{IsMutable, IsMutableCon, AffineAtom}
use Rattle.mz_modes.specs.Opening.{Opens}
use Rattle.mz_view.specs.Rules.{Folds, SetsClause}
use Rattle.mz_named.specs.Configurations.{Value, Int_value, Block_value}
use Rattle.mz_resource.specs.Meaning.{Owned, OwnsBoth, Sight, value_contents, IsMade, Means, Means_fixed, Means_block, Means_data, Means_mutable, MeansAll, All_more}
use Rattle.mz_resource.proofs.Facts.{some_inj, some_is}
use Rattle.mz_resource.proofs.Programs.Proper.{ProperDecls}
use Rattle.mz_resource.proofs.Meaning.Names.{eq_self, cons_is, append_is, share_agree, contents_named, or_left}
use Rattle.mz_perm.proofs.Orders.{used_in}
use Rattle.mz_resource.proofs.Meaning.Owning.{Split, all_append, all_end}
use Rattle.mz_resource.proofs.Meaning.Staying.{Stays, all_stay, one_at_self, mutable_or_not}
use Rattle.mz_resource.proofs.Meaning.Spending.{use_up, use_all, use_occurs, in_occurs, true_false}
use Rattle.mz_resource.proofs.Meaning.Inverse.{OwnsData, BlockOwns, owned_inv, block_inv, fixed_inv, data_inv}
use Rattle.mz_resource.proofs.Views.Viewing.{with_clauses, Viewed}

-- the sight with another clause at b
abbrev pub clause_at : ℕ → Option ℕ → (ℕ → Option ℕ) → ℕ → Option ℕ
clause_at b u old n = if nat_eq b n then u else old n

pub at_same : (b : ℕ) (u : Option ℕ) (old : ℕ → Option ℕ) → clause_at b u old b ≡ u
at_same b u old = grind (arith, nat_tests)

pub at_other : (b n : ℕ) (u : Option ℕ) (old : ℕ → Option ℕ) → (b ≡ n → ⊥) → clause_at b u old n ≡ old n
at_other b n u old h = grind (arith, nat_tests)

pub clause_stays : (D : Decls) (S : Sight) (b : ℕ) (u : Option ℕ) (f : Owned) → f b ≡ 0 → Stays D S (with_clauses S (clause_at b u S.clause)) f
clause_stays D S b u f z = record {
  fixed = λ c con vs i m. m;
  made = λ c con vs m. (con, vs, m);
  owned = λ c con vs l m. (m, at_other b c u S.clause (λ e. omega (arith, l, subst (λ n. f n ≡ 0) e z)));
  locked = λ l h e. e;
  hides = λ l p e. e;
}

-- a clause that is given where there was none, or is the same
gave : (D : Decls) (S : Sight) (b : ℕ) (u c : Option ℕ) (f : Owned) → 0 < f b → S.clause b ≡ c → (c ≡ None) ⊎ (c ≡ u) → ((v : ℕ) → u ≡ Some v → IsMutable D v) → (k : ℕ) → (clause_at b u S.clause k ≡ S.clause k) ⊎ ((0 < f k) × (S.clause k ≡ None) × ((v : ℕ) → clause_at b u S.clause k ≡ Some v → IsMutable D v))
gave D S b u c f own is ce lawful k = elim (cases_eq b k) [
  | inl e ↦ subst (λ n. (clause_at b u S.clause n ≡ S.clause n) ⊎ ((0 < f n) × (S.clause n ≡ None) × ((v : ℕ) → clause_at b u S.clause n ≡ Some v → IsMutable D v))) e (elim ce [
    | inl lacks ↦ inr (own, is ∙ lacks, λ v q. lawful v (sym (at_same b u S.clause) ∙ q))
    | inr same ↦ inl (at_same b u S.clause ∙ sym same ∙ sym is)
  ])
  | inr n ↦ inl (at_other b k u S.clause n)
]

module _ (D : Decls) (L : ProperDecls D) (S : Sight) (names : ℕ → Value) (R : List (Atom ℕ)) (f : Owned) (few : (t : ℕ) → f t ≤ 1) (p : MeansAll D S (map (map_atom names) R) f) where
  pub view_clause : (u x con : ℕ) (ys : List ℕ) (c : Option ℕ) (T : List (Atom ℕ)) → SetsClause Any_copy D R u x con ys c T → Viewed D S names T f
  view_clause u x con ys c T s =
      let r = use_up D S names (Has_atom x (Block_type con ys c)) R s.changes.rest f s.changes.used p in
      let o = owned_inv D S s.mutable r.first_part in
      let b = o.block in
      let S' = with_clauses S (clause_at b (Some u) S.clause) in
      let own_b : 0 < f b = omega (arith, r.join b, o.only b, one_at_self b) in
      let rest : r.two b ≡ 0 = omega (arith, r.join b, o.only b, one_at_self b, few b) in
      let atom : Means D S' (Has_atom (names x) (Block_type con (map names ys) (Some u))) r.one = Means_block b o.is o.made s.mutable (at_same b (Some u) S.clause) o.only in
      record {
        names' = names;
        low = λ m l. refl;
        clause' = S'.clause;
        own' = f;
        less = λ t. omega arith;
        means = subst (λ l. MeansAll D S' (map (map_atom names) l) f) (sym s.changes.new) (all_end D S' (map_atom names) s.changes.rest (Has_atom x (Block_type con ys (Some u))) f r.two r.one (all_stay D S S' r.second_part (clause_stays D S b (Some u) r.two rest)) atom (λ t. omega (arith, r.join t)));
        changed = gave D S b (Some u) c f own_b o.clause_is (inl s.none) (λ v e. subst (λ n. IsMutable D n) (some_inj e) s.adopted);
      }

  fold_parts : (x con : ℕ) (ys : List ℕ) (c : Option ℕ) (T : List (Atom ℕ)) (s : Folds Any_copy D R x con ys c T) → Split (Means D S (Has_atom (names x) (Block_type con (map names ys) c))) (λ h. Split (MeansAll D S (value_contents (map names ys) s.made.fields)) (MeansAll D S (map (map_atom names) s.rest)) h) f
  fold_parts x con ys c T s =
      let r = use_up D S names (Has_atom x (Block_type con ys c)) R s.used.0 f s.used.1 p in
      let q = use_all D S names (contents ys s.made.fields) s.used.0 s.rest r.two s.used.2 r.second_part in
      record {
        one = r.one;
        two = r.two;
        first_part = r.first_part;
        second_part = record {
          one = q.one;
          two = q.two;
          first_part = subst (λ l. MeansAll D S l q.one) (contents_named names ys (length s.made.fields) s.made.fields (L.fields con s.made s.is_con) (sym s.each)) q.first_part;
          second_part = q.second_part;
          join = q.join;
        };
        join = r.join;
      }

  fold_fixed : (x con : ℕ) (ys : List ℕ) (c : Option ℕ) (T : List (Atom ℕ)) → Folds Any_copy D R x con ys c T → (IsMutableCon D con → ⊥) → Viewed D S names T f
  fold_fixed x con ys c T s fixed =
      let r = fold_parts x con ys c T s in
      let q = r.second_part in
      let b = block_inv D S r.first_part in
      let n = fixed_inv D S fixed r.first_part in
      let made : IsMade D S b.0 con s.made.variety s.made (map names ys) = record { block = b.2; is_con = s.is_con; of_type = refl; long = length-map ys names ∙ s.each } in
      record {
        names' = names;
        low = λ m l. refl;
        clause' = S.clause;
        own' = f;
        less = λ t. omega arith;
        means = subst (λ l. MeansAll D S (map (map_atom names) l) f) (sym s.new) (all_end D S (map_atom names) s.rest (Has_atom x (Named_type s.made.variety)) f q.two q.one q.second_part (Means_data b.0 b.1 made fixed q.first_part) (λ t. omega (arith, r.join t, q.join t, n t)));
        changed = λ c. inl refl;
      }

  fold_mutable : (x con : ℕ) (ys : List ℕ) (c : Option ℕ) (T : List (Atom ℕ)) → Folds Any_copy D R x con ys c T → IsMutableCon D con → Viewed D S names T f
  fold_mutable x con ys c T s mutable =
      let r = fold_parts x con ys c T s in
      let q = r.second_part in
      let o = owned_inv D S mutable r.first_part in
      let b = o.block in
      let u = clause_of D s.made.variety in
      let S' = with_clauses S (clause_at b u S.clause) in
      let own_b : 0 < f b = omega (arith, r.join b, o.only b, one_at_self b) in
      let zero_one : q.one b ≡ 0 = omega (arith, r.join b, q.join b, o.only b, one_at_self b, few b) in
      let zero_two : q.two b ≡ 0 = omega (arith, r.join b, q.join b, o.only b, one_at_self b, few b) in
      let made : IsMade D S' b con s.made.variety s.made (map names ys) = record { block = o.made; is_con = s.is_con; of_type = refl; long = length-map ys names ∙ s.each } in
      let atom : Means D S' (Has_atom (names x) (Named_type s.made.variety)) (λ t. r.one t + q.one t) = Means_mutable b o.is made mutable (at_same b u S.clause) o.only (all_stay D S S' q.first_part (clause_stays D S b u q.one zero_one)) (λ t. refl) in
      record {
        names' = names;
        low = λ m l. refl;
        clause' = S'.clause;
        own' = f;
        less = λ t. omega arith;
        means = subst (λ l. MeansAll D S' (map (map_atom names) l) f) (sym s.new) (all_end D S' (map_atom names) s.rest (Has_atom x (Named_type s.made.variety)) f q.two _ (all_stay D S S' q.second_part (clause_stays D S b u q.two zero_two)) atom (λ t. omega (arith, r.join t, q.join t)));
        changed = gave D S b u c f own_b o.clause_is s.adopts (λ v e. (L.adopts s.made.variety v e).1);
      }

  pub view_fold : (x con : ℕ) (ys : List ℕ) (c : Option ℕ) (T : List (Atom ℕ)) → Folds Any_copy D R x con ys c T → Viewed D S names T f
  view_fold x con ys c T s = elim (mutable_or_not D con) [ inl m ↦ fold_mutable x con ys c T s m | inr n ↦ fold_fixed x con ys c T s n ]

-- names from n on stand for these values
abbrev named_from : ℕ → List Value → (ℕ → Value) → ℕ → Value
named_from n vs names m = if nat_lt m n then names m else (if nat_lt m (n + length vs) then slice_index_or vs (m - n) (Int_value 0) else names m)

named_out : (n : ℕ) (vs : List Value) (names : ℕ → Value) (m : ℕ) → (m < n) ⊎ (n + length vs ≤ m) → named_from n vs names m ≡ names m
named_out n vs names m (inl h) = grind (arith, nat_tests)
named_out n vs names m (inr h) = grind (arith, nat_tests)

named_in : (n : ℕ) (vs : List Value) (names : ℕ → Value) (m : ℕ) → n ≤ m → m < n + length vs → named_from n vs names m ≡ slice_index_or vs (m - n) (Int_value 0)
named_in n vs names m h k = grind (arith, nat_tests)

pub length_names : (n k : ℕ) → length (names_from n k) ≡ k
length_names n zero = refl
length_names n (suc k) = ap suc (length_names (suc n) k)

-- reading the values from a place on gives them back
map_values : (f : ℕ → Value) (n : ℕ) (vs : List Value) → ((m : ℕ) → m < length vs → f (n + m) ≡ slice_index_or vs m (Int_value 0)) → map f (names_from n (length vs)) ≡ vs
map_values f n [] h = refl
map_values f n (v ∷ vs) h =
    let d = h 0 (omega arith) in
    let z : n + 0 ≡ n = omega arith in
    let e = map_values f (suc n) vs (λ m l. let y : suc n + m ≡ n + suc m = omega arith in ap f y ∙ h (suc m) (omega arith)) in
    let x : f n ≡ v = ap f (sym z) ∙ d in
    cc

block_at : {v w : Value} {con : ℕ} {vs us : List Value} {c : Option ℕ} → v ≡ w → vs ≡ us → Has_atom v (Block_type con vs c) ≡ Has_atom w (Block_type con us c)
block_at d e = cc

-- a block that is opened, and what it owns
new_atoms : (D : Decls) (L : ProperDecls D) (S : Sight) (b con d : ℕ) (made : Con) (vs : List Value) (f : Owned) → IsMade D S b con d made vs → BlockOwns D S b con d made vs f → MeansAll D S (Has_atom (Block_value b) (Block_type con vs (clause_of D d)) ∷ value_contents vs made.fields) f
new_atoms D L S b con d made vs f m (inl k) = All_more {g = λ t. 0} (Means_fixed b refl m.block k.0 (none (clause_of D d) refl) (λ t. refl)) k.1 (λ t. omega arith)
  where
    -- only what is mutable adopts
    none : (u : Option ℕ) → clause_of D d ≡ u → u ≡ None
    none None e = refl
    none (Some u) e = let q = (L.adopts d u e).0 in absurd (k.0 (record { con = made; made = m.is_con; mutable = subst (λ n. IsMutable D n) (sym m.of_type) q }))
new_atoms D L S b con d made vs f m (inr k) = All_more (Means_block b refl m.block k.0 k.1 k.2.first_part) k.2.second_part k.2.join

module _ (D : Decls) (L : ProperDecls D) (S : Sight) (names : ℕ → Value) (R : List (Atom ℕ)) (f : Owned) (p : MeansAll D S (map (map_atom names) R) f) where
  -- x @ d opened at its own constructor
  pub view_opens : (x d con n : ℕ) (T : List (Atom ℕ)) → (s : Opens Any_copy D R x d con n T) → ((b k : ℕ) (made : Con) (vs : List Value) → names x ≡ Block_value b → IsMade D S b k d made vs → k ≡ con) → Viewed D S names T f
  view_opens x d con n T s its =
      let r = use_up D S names (Has_atom x (Named_type d)) R s.rest f s.used p in
      go r.one r.two r.second_part r.join (data_inv D S r.first_part)
    where
      go : (g h : Owned) → MeansAll D S (map (map_atom names) s.rest) h → OwnsBoth g h f → OwnsData D S (names x) d g → Viewed D S names T f
      go g h rest join o =
          record {
            names' = names';
            low = λ y l. out y (λ q. (let u = (fresh_at y q.0 q.1).0 in omega (arith, u, l)));
            clause' = S.clause;
            own' = f;
            less = λ t. omega arith;
            means = subst (λ l. MeansAll D S (map (map_atom names') l) f) (sym s.new) (subst (λ l. MeansAll D S l f) (sym whole) (all_append D S _ _ f h g rest (new_atoms D L S o.block con d s.made o.fields g m kind) (λ t. omega (arith, join t))));
            changed = λ c. inl refl;
          }
        where
          vs : List Value
          vs = o.fields

          k : ℕ
          k = length s.made.fields

          con_same : o.con ≡ con
          con_same = its o.block o.con o.con_is o.fields o.is o.made

          made_same : o.con_is ≡ s.made
          made_same = some_is (subst (λ c. slice_get D.cons c ≡ Some o.con_is) con_same o.made.is_con) s.is_con

          m : IsMade D S o.block con d s.made vs
          m = subst (λ c. IsMade D S o.block con d c vs) made_same (subst (λ c. IsMade D S o.block c d o.con_is vs) con_same o.made)

          kind : BlockOwns D S o.block con d s.made vs g
          kind = subst (λ c. BlockOwns D S o.block con d c vs g) made_same (subst (λ c. BlockOwns D S o.block c d o.con_is vs g) con_same o.kind)

          names' : ℕ → Value
          names' = named_from n vs names

          long : length vs ≡ k
          long = m.long

          -- outside of the new names nothing changes
          out : (y : ℕ) → ((n ≤ y) × (y < n + length vs) → ⊥) → names' y ≡ names y
          out y h = elim (cases_lt y n) [ inl l ↦ named_out n vs names y (inl l) | inr l ↦ elim (cases_lt y (n + length vs)) [ inl q ↦ absurd (h (l, q)) | inr q ↦ named_out n vs names y (inr q) ] ]

          fresh_at : (y : ℕ) → n ≤ y → y < n + length vs → (256 ≤ y) × (occurs y R ≡ false)
          fresh_at y l q =
              let z : n + (y - n) ≡ y = omega arith in
              let u = s.fresh (y - n) (omega (arith, long)) in
              (subst (λ v. 256 ≤ v) z u.not_core, subst (λ v. occurs v R ≡ false) z u.unused)

          same : (y : ℕ) → occurs y R ≡ true → names' y ≡ names y
          same y q = out y (λ z. true_false q (fresh_at y z.0 z.1).1)

          subject : occurs x R ≡ true
          subject = in_occurs x (Has_atom x (Named_type d)) R (used_in (AffineAtom D) _ R s.rest s.used) (or_left _ _ (eq_self x))

          values : map names' (names_from n k) ≡ vs
          values = subst (λ l. map names' (names_from n l) ≡ vs) long (map_values names' n vs (λ y l. named_in n vs names (n + y) (omega arith) (omega arith) ∙ ap (λ i. slice_index_or vs i (Int_value 0)) (omega arith)))

          whole : map (map_atom names') (s.rest ++ opened x con (names_from n k) (clause_of D d) s.made.fields) ≡ map (map_atom names) s.rest ++ (Has_atom (Block_value o.block) (Block_type con vs (clause_of D d)) ∷ value_contents vs s.made.fields)
          whole =
              let a = same x subject ∙ o.is in
              let c = contents_named names' (names_from n k) k s.made.fields (L.fields con s.made s.is_con) (sym (length_names n k)) ∙ ap (λ l. value_contents l s.made.fields) values in
              let q = share_agree names' names s.rest (λ y e. same y (use_occurs D y (Has_atom x (Named_type d)) R s.rest s.used e)) in
              map-append (map_atom names') s.rest (opened x con (names_from n k) (clause_of D d) s.made.fields) ∙ append_is q (cons_is (block_at a values) c)
