-- Parts of what a state owns: a permission is taken out with its part and put in again, states are put together and split.
-- Ownership counts how often each block is owned, so all of it is sums, and order is nothing.
use Rattle.std.proofs.Common.{◌≡◌, inl, inr, ℕ, ◌+◌, ◌≤◌, List, [], ◌∷◌, ◌++◌, map, refl, sym, ◌∙◌, subst, arith}
use Rattle.std.proofs.lemmas.List.{map-append}
use Rattle.mz_tree.specs.Plain.{Atom}
use Rattle.mz_decl.specs.Declarations.{Decls}
use Rattle.mz_perm.specs.Lists.{In, TakesOne, SameUpToOrder}
use Rattle.mz_named.specs.Configurations.{Value}
use Rattle.mz_resource.specs.Meaning.{Owned, OwnsNothing, OwnsBoth, Sight, Means, MeansAll, All_none, All_more}

-- two parts
pub record Split (A B : Owned → Type 0) (f : Owned) : Type 0 where
  pub one : Owned
  pub two : Owned
  pub first_part : A one
  pub second_part : B two
  pub join : OwnsBoth one two f

-- what is owned may be said in another way
pub all_as : (D : Decls) (S : Sight) (q : List (Atom Value)) (h f : Owned) → ((t : ℕ) → h t ≡ f t) → MeansAll D S q h → MeansAll D S q f
all_as D S [] h f e (All_none n) = All_none (λ t. sym (e t) ∙ n t)
all_as D S (a ∷ q) h f e (All_more m p j) = All_more m p (λ t. sym (e t) ∙ j t)

pub head_of : (D : Decls) (S : Sight) {a : Atom Value} {p : List (Atom Value)} (f : Owned) → MeansAll D S (a ∷ p) f → Split (Means D S a) (MeansAll D S p) f
head_of D S f (All_more m p j) = record { one = _; two = _; first_part = m; second_part = p; join = j }

pub nothing_of : (D : Decls) (S : Sight) (f : Owned) → MeansAll D S [] f → OwnsNothing f
nothing_of D S f (All_none n) = n

module _ (D : Decls) (S : Sight) (m : Atom ℕ → Atom Value) where
  -- taking a permission out splits what is owned
  pub take_out : (a : Atom ℕ) (R R' : List (Atom ℕ)) (f : Owned) → TakesOne a R R' → MeansAll D S (map m R) f → Split (Means D S (m a)) (MeansAll D S (map m R')) f
  take_out a [] R' f t p = absurd t
  take_out a (x ∷ R) R' f (inl t) p =
      let r = head_of D S f p in
      record { one = r.one; two = r.two; first_part = subst (λ b. Means D S (m b) r.one) (sym t.0) r.first_part; second_part = subst (λ l. MeansAll D S (map m l) r.two) (sym t.1) r.second_part; join = r.join }
  take_out a (x ∷ R) R' f (inr t) p =
      let r = head_of D S f p in
      let s = take_out a R t.0 r.two t.2 r.second_part in
      record {
        one = s.one;
        two = λ n. r.one n + s.two n;
        first_part = s.first_part;
        second_part = subst (λ l. MeansAll D S (map m l) (λ n. r.one n + s.two n)) (sym t.1) (All_more r.first_part s.second_part (λ n. refl));
        join = λ n. omega (arith, r.join n, s.join n);
      }

  -- and back in
  pub put_in : (a : Atom ℕ) (R R' : List (Atom ℕ)) (f g h : Owned) → TakesOne a R R' → Means D S (m a) g → MeansAll D S (map m R') h → OwnsBoth g h f → MeansAll D S (map m R) f
  put_in a [] R' f g h t p q j = absurd t
  put_in a (x ∷ R) R' f g h (inl t) p q j = All_more (subst (λ b. Means D S (m b) g) t.0 p) (subst (λ l. MeansAll D S (map m l) h) t.1 q) j
  put_in a (x ∷ R) R' f g h (inr t) p q j =
      let r = head_of D S h (subst (λ l. MeansAll D S (map m l) h) t.1 q) in
      All_more {g = r.one} r.first_part (put_in a R t.0 (λ n. g n + r.two n) g r.two t.2 p r.second_part (λ n. refl)) (λ n. omega (arith, j n, r.join n))

  -- order is nothing
  pub means_perm : (R R' : List (Atom ℕ)) (f : Owned) → SameUpToOrder R R' → MeansAll D S (map m R) f → MeansAll D S (map m R') f
  means_perm [] R' f s p = subst (λ l. MeansAll D S (map m l) f) (sym s) p
  means_perm (x ∷ R) R' f s p =
      let r = head_of D S f p in
      put_in x R' s.0 f r.one r.two s.1 r.first_part (means_perm R s.0 r.two s.2 r.second_part) r.join

  -- what stands in a state means what it says
  pub look_up : (a : Atom ℕ) (R : List (Atom ℕ)) (f : Owned) → In a R → MeansAll D S (map m R) f → (g : Owned) × Means D S (m a) g × ((t : ℕ) → g t ≤ f t)
  look_up a [] f i p = absurd i
  look_up a (x ∷ R) f (inl e) p = let r = head_of D S f p in (r.one, subst (λ b. Means D S (m b) r.one) (sym e) r.first_part, λ t. omega (arith, r.join t))
  look_up a (x ∷ R) f (inr i) p = let r = head_of D S f p in let s = look_up a R r.two i r.second_part in (s.0, s.1, λ t. omega (arith, r.join t, s.2 t))

pub all_append : (D : Decls) (S : Sight) (p q : List (Atom Value)) (f g h : Owned) → MeansAll D S p g → MeansAll D S q h → OwnsBoth g h f → MeansAll D S (p ++ q) f
all_append D S [] q f g h (All_none n) k j = all_as D S q h f (λ t. omega (arith, n t, j t)) k
all_append D S (a ∷ p) q f g h (All_more {h = g2} m r i) k j =
    All_more m (all_append D S p q (λ t. g2 t + h t) g2 h r k (λ t. refl)) (λ t. omega (arith, i t, j t))

-- two states under one way to name
pub all_both : (D : Decls) (S : Sight) (m : Atom ℕ → Atom Value) (p q : List (Atom ℕ)) (f g h : Owned) → MeansAll D S (map m p) g → MeansAll D S (map m q) h → OwnsBoth g h f → MeansAll D S (map m (p ++ q)) f
all_both D S m p q f g h a b j = subst (λ l. MeansAll D S l f) (sym (map-append m p q)) (all_append D S (map m p) (map m q) f g h a b j)

-- one more at the end
pub all_end : (D : Decls) (S : Sight) (m : Atom ℕ → Atom Value) (p : List (Atom ℕ)) (a : Atom ℕ) (f g h : Owned) → MeansAll D S (map m p) g → Means D S (m a) h → OwnsBoth g h f → MeansAll D S (map m (p ++ a ∷ [])) f
all_end D S m p a f g h q b j = all_both D S m p (a ∷ []) f g h q (All_more {h = λ t. 0} b (All_none (λ t. refl)) (λ t. omega arith)) j

-- parts of a list
pub all_split : (D : Decls) (S : Sight) (p q : List (Atom Value)) (f : Owned) → MeansAll D S (p ++ q) f → Split (MeansAll D S p) (MeansAll D S q) f
all_split D S [] q f m = record { one = λ t. 0; two = f; first_part = All_none (λ t. refl); second_part = m; join = λ t. omega arith }
all_split D S (a ∷ p) q f m =
    let r = head_of D S f m in
    let s = all_split D S p q r.two r.second_part in
    record { one = λ t. r.one t + s.one t; two = s.two; first_part = All_more r.first_part s.first_part (λ t. refl); second_part = s.second_part; join = λ t. omega (arith, r.join t, s.join t) }
