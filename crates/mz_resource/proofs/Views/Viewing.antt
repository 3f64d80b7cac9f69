-- The view rules that open and close nothing: the values of names stay, and what is added means what it says since what it
-- stands on does.
use Rattle.std.proofs.Common.{◌≡◌, ◌⊎◌, inl, inr, ℕ, zero, suc, ◌<◌, ◌≤◌, List, [], ◌∷◌, ◌++◌, map, Option, Some, None, slice_get, slice_set, refl, sym, ap, ◌∙◌, subst, arith}
use Rattle.std.proofs.lemmas.List.{map-append}
use Rattle.mz_tree.specs.Plain.{Ty, Atom, Atoms, Int_type, Unknown_type, Dynamic_type, Locked_type, Named_type, Function_type, Block_type, Lock_type, Has_atom, Same_atom, No_atoms, More_atoms, map_ty, map_atom, map_atoms}
use Rattle.mz_decl.specs.Declarations.{Decls}
use Rattle.mz_perm.specs.Lists.{In, TakesOne, Any_copy}
use Rattle.mz_modes.specs.Affine.{IsMutable}
use Rattle.mz_view.specs.Equations.{equations}
use Rattle.mz_view.specs.Spots.{names_in, names_in_atom, names_in_type, Puts}
use Rattle.mz_view.specs.Rules.{Exchanges, Copies, Renames, Equates, Dynamics, Meets, SetsField, SetsSpot, subject_of, with_subject}
use Rattle.mz_named.specs.Configurations.{Value, Int_value}
use Rattle.mz_named.specs.Operations.{IsBlock}
use Rattle.mz_resource.specs.Meaning.{Owned, Sight, Means, Means_same, Means_unknown, Means_dynamic, Means_lock, MeansAll, All_none, All_more}
use Rattle.mz_resource.proofs.Facts.{some_inj}
use Rattle.mz_resource.proofs.Meaning.Names.{atoms_twice, append_is}
use Rattle.mz_view.proofs.Named.{named_unique}
use Rattle.mz_resource.proofs.Meaning.Owning.{take_out, look_up, all_both, all_end}
use Rattle.mz_resource.proofs.Meaning.Staying.{affine_named, owns_nothing}
use Rattle.mz_resource.proofs.Meaning.Spending.{use_up}
use Rattle.mz_resource.proofs.Meaning.Inverse.{same_inv, block_inv, lock_inv, exclusive_block, cell_fields, block_is}

abbrev pub with_clauses : Sight → (ℕ → Option ℕ) → Sight
with_clauses S c = record { at = S.at; clause = c; hides = S.hides }

-- what a view step leads to: core names keep their values, and a clause changes only where it was none, of an owned block
pub record Viewed (D : Decls) (S : Sight) (names : ℕ → Value) (T : List (Atom ℕ)) (f : Owned) : Type 0 where
  pub names' : ℕ → Value
  pub low : (m : ℕ) → m < 256 → names' m ≡ names m
  pub clause' : ℕ → Option ℕ
  pub own' : Owned
  pub less : (t : ℕ) → own' t ≤ f t
  pub means : MeansAll D (with_clauses S clause') (map (map_atom names') T) own'
  pub changed : (b : ℕ) → (clause' b ≡ S.clause b) ⊎ ((0 < f b) × (S.clause b ≡ None) × ((u : ℕ) → clause' b ≡ Some u → IsMutable D u))

set_same : (f : ℕ → Value) (ys : List ℕ) (i z name : ℕ) → slice_get ys i ≡ Some name → f name ≡ f z → map f (slice_set ys i z) ≡ map f ys
set_same f [] i z name e q = refl
set_same f (y ∷ ys) zero z name e q = let d : y ≡ name = some_inj e in ap (λ v. v ∷ map f ys) (sym q ∙ ap f (sym d))
set_same f (y ∷ ys) (suc i) z name e q = ap (λ vs. f y ∷ vs) (set_same f ys i z name e q)

-- names and all but the names, under another naming
mutual
  type_names : {N M : Type 0} (f : N → M) (t : Ty N) → names_in_type (map_ty f t) ≡ map f (names_in_type t)
  type_names f Int_type = refl
  type_names f Unknown_type = refl
  type_names f Dynamic_type = refl
  type_names f Locked_type = refl
  type_names f (Named_type d) = refl
  type_names f (Function_type s) = refl
  type_names f (Block_type con ys u) = refl
  type_names f (Lock_type p) = guarded_names f p

  atom_names : {N M : Type 0} (f : N → M) (a : Atom N) → names_in_atom (map_atom f a) ≡ map f (names_in_atom a)
  atom_names f (Has_atom x t) = ap (λ l. f x ∷ l) (type_names f t)
  atom_names f (Same_atom x y) = refl

  guarded_names : {N M : Type 0} (f : N → M) (p : Atoms N) → names_in (map_atoms f p) ≡ map f (names_in p)
  guarded_names f No_atoms = refl
  guarded_names f (More_atoms a p) = append_is (atom_names f a) (guarded_names f p) ∙ sym (map-append f (names_in_atom a) (names_in p))

spot_same : (f : ℕ → Value) (p q : Atoms ℕ) (k z name : ℕ) → Puts k z p q → slice_get (names_in p) k ≡ Some name → f name ≡ f z → map_atoms f q ≡ map_atoms f p
spot_same f p q k z name puts e same =
    named_unique (Int_value 0) (map_atoms f q) (map_atoms f p)
    (guarded_names f q ∙ ap (map f) puts.names ∙ set_same f (names_in p) k z name e same ∙ sym (guarded_names f p))
    (atoms_twice (λ _. tt) f q ∙ puts.rest ∙ sym (atoms_twice (λ _. tt) f p))

renamed_atom : (f : ℕ → Value) (a : Atom ℕ) (z : ℕ) → f (subject_of a) ≡ f z → map_atom f a ≡ map_atom f (with_subject z a)
renamed_atom f (Has_atom x t) z e = ap (λ v. Has_atom v (map_ty f t)) e
renamed_atom f (Same_atom x y) z e = ap (λ v. Same_atom v (f y)) e

same_equations : (D : Decls) (S : Sight) (f : ℕ → Value) (ys zs : List ℕ) → map f ys ≡ map f zs → MeansAll D S (map (map_atom f) (equations ys zs)) (λ t. 0)
same_equations D S f [] zs e = All_none (λ t. refl)
same_equations D S f (y ∷ ys) [] e = All_none (λ t. refl)
same_equations D S f (y ∷ ys) (z ∷ zs) e = All_more {g = λ t. 0} {h = λ t. 0} (Means_same (cc) (λ t. refl)) (same_equations D S f ys zs (tails e)) (λ t. omega arith)
  where
    tails : {a b : Value} {as' bs : List Value} → a ∷ as' ≡ b ∷ bs → as' ≡ bs
    tails e = cc

module _ (D : Decls) (S : Sight) (names : ℕ → Value) (R : List (Atom ℕ)) (f : Owned) (p : MeansAll D S (map (map_atom names) R) f) where
  plainly : (T : List (Atom ℕ)) (g : Owned) → ((t : ℕ) → g t ≤ f t) → MeansAll D S (map (map_atom names) T) g → Viewed D S names T f
  plainly T g le m = record { names' = names; low = λ m l. refl; clause' = S.clause; own' = g; less = le; means = m; changed = λ b. inl refl }

  -- one more permission, which owns nothing
  adds : (a : Atom ℕ) (T : List (Atom ℕ)) → Means D S (map_atom names a) (λ t. 0) → T ≡ R ++ a ∷ [] → Viewed D S names T f
  adds a T m e = plainly T f (λ t. omega arith) (subst (λ l. MeansAll D S (map (map_atom names) l) f) (sym e) (all_end D S (map_atom names) R a f f (λ t. 0) p m (λ t. omega arith)))

  -- one permission for another that means the same
  exchanges : (a b : Atom ℕ) (T : List (Atom ℕ)) → map_atom names a ≡ map_atom names b → Exchanges Any_copy D R a b T → Viewed D S names T f
  exchanges a b T e x =
      let r = use_up D S names a R x.rest f x.used p in
      plainly T f (λ t. omega arith) (subst (λ l. MeansAll D S (map (map_atom names) l) f) (sym x.new) (all_end D S (map_atom names) x.rest b f r.two r.one r.second_part (subst (λ c. Means D S c r.one) e r.first_part) (λ t. omega (arith, r.join t))))

  equal_names : (x y : ℕ) → In (Same_atom x y) R → names x ≡ names y
  equal_names x y i = same_inv D S (look_up D S (map_atom names) (Same_atom x y) R f i p).1

  pub view_drop : (a : Atom ℕ) (T : List (Atom ℕ)) → TakesOne a R T → Viewed D S names T f
  view_drop a T t = let r = take_out D S (map_atom names) a R T f t p in plainly T r.two (λ t. omega (arith, r.join t)) r.second_part

  pub view_copy : (a : Atom ℕ) (T : List (Atom ℕ)) → Copies D R a T → Viewed D S names T f
  view_copy a T c =
      let r = look_up D S (map_atom names) a R f c.held p in
      let n = owns_nothing D S r.1 (λ h. c.duplicable (affine_named D names a h)) in
      plainly T f (λ t. omega arith) (subst (λ l. MeansAll D S (map (map_atom names) l) f) (sym c.new) (all_end D S (map_atom names) R a f f r.0 p r.1 (λ t. omega (arith, n t))))

  pub view_rename : (a : Atom ℕ) (z : ℕ) (T : List (Atom ℕ)) → Renames Any_copy D R a z T → Viewed D S names T f
  view_rename a z T r = exchanges a (with_subject z a) T (renamed_atom names a z (equal_names _ _ r.equal)) r.changes

  pub view_equal : (x y : ℕ) (T : List (Atom ℕ)) → Equates R x y T → Viewed D S names T f
  view_equal x y T q = adds (Same_atom y x) T (Means_same (elim q.equal [ inl e ↦ ap names (sym e) | inr i ↦ sym (equal_names x y i) ]) (λ t. refl)) q.new

  pub view_dynamic : (x : ℕ) (T : List (Atom ℕ)) → Dynamics D R x T → Viewed D S names T f
  view_dynamic x T d =
      let r = look_up D S (map_atom names) (Has_atom x d.exclusive.ty) R f d.exclusive.held p in
      let b = exclusive_block D S (names x) names d.exclusive.ty r.0 d.exclusive.exclusive r.1 in
      adds (Has_atom x Dynamic_type) T (Means_dynamic b.0 b.3 b.4 (λ t. refl)) d.new

  pub view_unknown : (x : ℕ) (T : List (Atom ℕ)) → T ≡ R ++ Has_atom x Unknown_type ∷ [] → Viewed D S names T f
  view_unknown x T e = adds (Has_atom x Unknown_type) T (Means_unknown (λ t. refl)) e

  pub view_meet : (x con : ℕ) (ys : List ℕ) (c : Option ℕ) (y other : ℕ) (zs : List ℕ) (d : Option ℕ) (T : List (Atom ℕ)) → Meets D R x con ys c y other zs d T → Viewed D S names T f
  view_meet x con ys c y other zs d T m =
      let l = block_inv D S (look_up D S (map_atom names) (Has_atom x (Block_type con ys c)) R f m.left p).1 in
      let r = block_inv D S (look_up D S (map_atom names) (Has_atom y (Block_type other zs d)) R f m.right p).1 in
      let e : r.0 ≡ l.0 = block_is (ap names (sym m.same_subject) ∙ r.1) l.1 in
      let k : IsBlock S.at l.0 other (map names zs) = subst (λ n. IsBlock S.at n other (map names zs)) e r.2 in
      let same : map names ys ≡ map names zs = cell_fields l.2.made k.made in
      plainly T f (λ t. omega arith) (subst (λ q. MeansAll D S (map (map_atom names) q) f) (sym m.new) (all_both D S (map_atom names) R (equations ys zs) f f (λ t. 0) p (same_equations D S names ys zs same) (λ t. omega arith)))

  pub view_field : (i z x con : ℕ) (ys : List ℕ) (c : Option ℕ) (T : List (Atom ℕ)) → SetsField Any_copy D R i z x con ys c T → Viewed D S names T f
  view_field i z x con ys c T s = exchanges _ _ T (ap (λ vs. Has_atom (names x) (Block_type con vs c)) (sym (set_same names ys i z s.name s.is_name (equal_names s.name z s.equal)))) s.changes

  pub view_lock : (k z l : ℕ) (q : Atoms ℕ) (T : List (Atom ℕ)) → SetsSpot R k z l q T → Viewed D S names T f
  view_lock k z l q T s =
      let o = lock_inv D S (look_up D S (map_atom names) (Has_atom l (Lock_type q)) R f s.held p).1 in
      adds (Has_atom l (Lock_type s.guarded)) T (Means_lock o.0 o.1 (o.2 ∙ ap Some (sym (spot_same names q s.guarded k z s.name s.puts s.is_name (equal_names s.name z s.equal)))) (λ t. refl)) s.new
