-- What a permission means stays where what it owns stays: `Stays` says what else may change, of the heap and of clauses, for an
-- owner of these. And what isn't affine owns nothing, so a copy of it costs nothing.
use Rattle.std.proofs.lemmas.Bool.Decides.{nat_tests}
use Rattle.std.proofs.Common.{◌≡◌, ◌⊎◌, inl, inr, ℕ, ◌<◌, ◌≤◌, Bool, true, false, List, [], ◌∷◌, Option, Some, None, slice_get, refl, ap, ◌∙◌, subst, arith}
use Rattle.std.proofs.lemmas.Bool.{cases_Bool}
use Rattle.mz_tree.specs.Plain.{Atom, Atoms, Int_type, Unknown_type, Dynamic_type, Locked_type, Named_type, Function_type, Block_type, Lock_type, Has_atom, Same_atom, map_atom}
use Rattle.mz_tree.specs.Programs.{Variety, Con, Field}
use Rattle.mz_decl.specs.Declarations.{Decls}
use Rattle.mz_perm.specs.Lists.{In}
use Rattle.mz_modes.specs.Affine.{IsMutable, IsMutableCon, Affine, Is_mutable, Holds_named, Holds_block, Holds_locked, HasContent, AffineAtom}
use Rattle.mz_named.specs.Configurations.{Value, Lock_cell}
use Rattle.mz_named.specs.Operations.{IsBlock}
use Rattle.mz_resource.specs.Meaning.{Owned, OwnsNothing, one_at, Sight, value_contents, IsMade, Means, Means_same, Means_int, Means_unknown, Means_function, Means_dynamic, Means_lock, Means_locked, Means_fixed, Means_block, Means_data, Means_mutable, MeansAll, All_none, All_more}
use Rattle.mz_resource.proofs.Facts.{some_is, none_some}

-- what stays of what is seen, for an owner of these
pub record Stays (D : Decls) (S S' : Sight) (f : Owned) : Type 0 where
  pub fixed : (b con : ℕ) (vs : List Value) → (IsMutableCon D con → ⊥) → IsBlock S.at b con vs → IsBlock S'.at b con vs
  pub made : (b con : ℕ) (vs : List Value) → IsBlock S.at b con vs → (con' : ℕ) × (vs' : List Value) × IsBlock S'.at b con' vs'
  pub owned : (b con : ℕ) (vs : List Value) → 0 < f b → IsBlock S.at b con vs → IsBlock S'.at b con vs × (S'.clause b ≡ S.clause b)
  pub locked : (l : ℕ) → 0 < f l → S.at l ≡ Some (Lock_cell true) → S'.at l ≡ Some (Lock_cell true)
  pub hides : (l : ℕ) (p : Atoms Value) → S.hides l ≡ Some p → S'.hides l ≡ Some p

pub stays_part : (D : Decls) (S S' : Sight) (f g : Owned) → ((t : ℕ) → g t ≤ f t) → Stays D S S' f → Stays D S S' g
stays_part D S S' f g le k = record {
  fixed = k.fixed;
  made = k.made;
  hides = k.hides;
  owned = λ b con vs h. k.owned b con vs (omega (arith, le b));
  locked = λ l h. k.locked l (omega (arith, le l));
}

pub one_at_self : (b : ℕ) → one_at b b ≡ 1
one_at_self b = grind (arith)

pub one_other : (l t : ℕ) → (l ≡ t → ⊥) → one_at l t ≡ 0
one_other l t n = grind (arith, nat_tests)

pub made_as : (D : Decls) (S S' : Sight) (b con d : ℕ) (made : Con) (vs : List Value) → IsBlock S'.at b con vs → IsMade D S b con d made vs → IsMade D S' b con d made vs
made_as D S S' b con d made vs k m = record { block = k; is_con = m.is_con; of_type = m.of_type; long = m.long }

mutual
  pub means_stays : (D : Decls) (S S' : Sight) {a : Atom Value} {f : Owned} → Means D S a f → Stays D S S' f → Means D S' a f
  means_stays D S S' (Means_same e n) k = Means_same e n
  means_stays D S S' (Means_int x e n) k = Means_int x e n
  means_stays D S S' (Means_unknown n) k = Means_unknown n
  means_stays D S S' (Means_function x e s n) k = Means_function x e s n
  means_stays D S S' (Means_dynamic b e m n) k = Means_dynamic b e (k.made _ _ _ m).2 n
  means_stays D S S' (Means_lock l e h n) k = Means_lock l e (k.hides _ _ h) n
  means_stays D S S' (Means_locked l e h o) k = Means_locked l e (k.locked l (omega (arith, o l, one_at_self l)) h) o
  means_stays D S S' (Means_fixed b e m i c n) k = Means_fixed b e (k.fixed _ _ _ i m) i c n
  means_stays D S S' (Means_block b e m i c o) k = let r = k.owned b _ _ (omega (arith, o b, one_at_self b)) m in Means_block b e r.0 i (r.1 ∙ c) o
  means_stays D S S' (Means_data b e m i p) k = Means_data b e (made_as D S S' _ _ _ _ _ (k.fixed _ _ _ i m.block) m) i (all_stay D S S' p k)
  means_stays D S S' (Means_mutable {f = f} {h = h} b e m i c o p j) k =
      let r = k.owned b _ _ (omega (arith, o b, one_at_self b, j b)) m.block in
      Means_mutable b e (made_as D S S' _ _ _ _ _ r.0 m) i (r.1 ∙ c) o (all_stay D S S' p (stays_part D S S' f h (λ t. omega (arith, j t)) k)) j

  pub all_stay : (D : Decls) (S S' : Sight) {p : List (Atom Value)} {f : Owned} → MeansAll D S p f → Stays D S S' f → MeansAll D S' p f
  all_stay D S S' (All_none n) k = All_none n
  all_stay D S S' (All_more {f = f} {g = g} {h = h} m p j) k =
      All_more (means_stays D S S' m (stays_part D S S' f g (λ t. omega (arith, j t)) k)) (all_stay D S S' p (stays_part D S S' f h (λ t. omega (arith, j t)) k)) j

-- affine is said of the type, whatever the names
pub affine_named : {N M : Type 0} (D : Decls) (f : N → M) (a : Atom N) → AffineAtom D (map_atom f a) → AffineAtom D a
affine_named D f (Has_atom x Int_type) h = h
affine_named D f (Has_atom x Unknown_type) h = h
affine_named D f (Has_atom x Dynamic_type) h = h
affine_named D f (Has_atom x Locked_type) h = h
affine_named D f (Has_atom x (Named_type d)) h = h
affine_named D f (Has_atom x (Function_type s)) h = h
affine_named D f (Has_atom x (Block_type con ys u)) h = h
affine_named D f (Has_atom x (Lock_type p)) h = h
affine_named D f (Same_atom x y) h = h

-- a content that is affine makes its data type affine
affine_content : (D : Decls) (k : ℕ) (c : Con) (a : Atom ℕ) → slice_get D.cons k ≡ Some c → HasContent a c.fields → AffineAtom D a → Affine D c.variety
affine_content D k c (Has_atom x Int_type) e i h = absurd h
affine_content D k c (Has_atom x Unknown_type) e i h = absurd h
affine_content D k c (Has_atom x Dynamic_type) e i h = absurd h
affine_content D k c (Has_atom x Locked_type) e i h = Holds_locked k x c e i
affine_content D k c (Has_atom x (Named_type d)) e i h = Holds_named k x d c e i h
affine_content D k c (Has_atom x (Function_type s)) e i h = absurd h
affine_content D k c (Has_atom x (Block_type con ys u)) e i h = Holds_block k x con ys u c e i h
affine_content D k c (Has_atom x (Lock_type p)) e i h = absurd h
affine_content D k c (Same_atom x y) e i h = absurd h

affine_contents : (D : Decls) (k : ℕ) (c : Con) (vs : List Value) (fields : List Field) → slice_get D.cons k ≡ Some c → ((a : Atom ℕ) → HasContent a fields → HasContent a c.fields) → (a : Atom Value) → In a (value_contents vs fields) → AffineAtom D a → Affine D c.variety
affine_contents D k c vs [] e sub a i h = absurd i
affine_contents D k c vs (x ∷ fields) e sub a (inl q) h = affine_content D k c x.content e (sub x.content (inl refl)) (affine_named D _ x.content (subst (λ b. AffineAtom D b) q h))
affine_contents D k c vs (x ∷ fields) e sub a (inr i) h = affine_contents D k c vs fields e (λ b j. sub b (inr j)) a i h

pub mutable_type : (D : Decls) (k : ℕ) (c : Con) → slice_get D.cons k ≡ Some c → IsMutableCon D k → IsMutable D c.variety
mutable_type D k c e m = let q : m.con ≡ c = same (m.made) e in subst (λ (x : Con). IsMutable D x.variety) q m.mutable
  where
    same : {o : Option Con} {a b : Con} → o ≡ Some a → o ≡ Some b → a ≡ b
    same p q = cc

-- what isn't affine owns nothing
mutual
  pub owns_nothing : (D : Decls) (S : Sight) {a : Atom Value} {f : Owned} → Means D S a f → (AffineAtom D a → ⊥) → OwnsNothing f
  owns_nothing D S (Means_same e n) k = n
  owns_nothing D S (Means_int x e n) k = n
  owns_nothing D S (Means_unknown n) k = n
  owns_nothing D S (Means_function x e s n) k = n
  owns_nothing D S (Means_dynamic b e m n) k = n
  owns_nothing D S (Means_lock l e h n) k = n
  owns_nothing D S (Means_locked l e h o) k = absurd (k tt)
  owns_nothing D S (Means_fixed b e m i c n) k = n
  owns_nothing D S (Means_block b e m i c o) k = absurd (k i)
  owns_nothing D S (Means_data {con = con} {made = made} {vs = vs} b e m i p) k = owns_nothing_all D S p (λ a j h. k (subst (λ n. Affine D n) m.of_type (affine_contents D con made vs made.fields m.is_con (λ c q. q) a j h)))
  owns_nothing D S (Means_mutable {con = con} {made = made} b e m i c o p j) k = absurd (k (Is_mutable _ (subst (λ n. IsMutable D n) m.of_type (mutable_type D con made m.is_con i))))

  pub owns_nothing_all : (D : Decls) (S : Sight) {p : List (Atom Value)} {f : Owned} → MeansAll D S p f → ((a : Atom Value) → In a p → AffineAtom D a → ⊥) → OwnsNothing f
  owns_nothing_all D S (All_none n) k = n
  owns_nothing_all D S (All_more m p j) k =
      let x = owns_nothing D S m (k _ (inl refl)) in
      let y = owns_nothing_all D S p (λ a i. k a (inr i)) in
      λ t. omega (arith, j t, x t, y t)

-- a constructor is one of a mutable data type, or not
pub mutable_or_not : (D : Decls) (k : ℕ) → IsMutableCon D k ⊎ (IsMutableCon D k → ⊥)
mutable_or_not D k = by (slice_get D.cons k) refl
  where
    true_false : {x y : Bool} → x ≡ false → x ≡ y → y ≡ true → ⊥
    true_false p q r = absurd (cc)

    of_type : (c : Con) → slice_get D.cons k ≡ Some c → (o : Option Variety) → slice_get D.varieties c.variety ≡ o → IsMutableCon D k ⊎ (IsMutableCon D k → ⊥)
    of_type c e None q = inr (λ m. let t = mutable_type D k c e m in none_some q t.declared)
    of_type c e (Some v) q = elim (cases_Bool v.mutable) [
      | inl y ↦ inl (record { con = c; made = e; mutable = record { variety = v; declared = q; mutable = y } })
      | inr n ↦ inr (λ m. let t = mutable_type D k c e m in true_false n (ap (λ (z : Variety). z.mutable) (some_is q t.declared)) t.mutable)
    ]

    by : (o : Option Con) → slice_get D.cons k ≡ o → IsMutableCon D k ⊎ (IsMutableCon D k → ⊥)
    by None e = inr (λ m. none_some e m.made)
    by (Some c) e = of_type c e (slice_get D.varieties c.variety) refl
