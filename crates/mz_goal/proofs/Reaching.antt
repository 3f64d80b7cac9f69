-- A search along equations comes to each name of the class.
use Rattle.std.proofs.lemmas.Bool.{eqb-true, eq-eqb}
use mathlib.Core.Bool.{beq}
use Rattle.std.specs.Prelude.{◌==◌, ◌||◌, ◌&&◌}
use Rattle.std.proofs.Common.{◌≡◌, ◌⊎◌, inl, inr, ℕ, zero, suc, ◌+◌, ◌<◌, ◌≤◌, arith, Bool, true, false, List, [], ◌∷◌, ◌++◌, length, Option, Some, None, slice_get, refl, sym, ap, ◌∙◌, subst}
use Rattle.mz_tree.specs.Plain.{Atom, Has_atom, Same_atom}
use Rattle.mz_perm.specs.Lists.{In}
use Rattle.mz_perm.specs.Joining.{Joined, Joined_itself, Joined_right, Joined_left, Joined_through}
use Rattle.mz_view.specs.Steps.{plain_steps}
use Rattle.mz_view.specs.declared.step.ViewStep.{ViewStep}
use Rattle.mz_goal.specs.Reaching.{has, equal_to, IsLevel, JoinsOne, SaysEqual, Follows, FollowsBack, Reaches, ReachesOne, one_outside, ends_outside, outside}

some_is : {A : Type 0} (a b : A) → Some a ≡ Some b → a ≡ b
some_is a b e = cc

or_more : (b c d : Bool) → (c ≡ true → d ≡ true) → (b || c) ≡ true → (b || d) ≡ true
or_more true c d f h = refl
or_more false c d f h = f h

-- true stays true
more : (names l : List ℕ) (n : ℕ) → has names n ≡ true → has (names ++ l) n ≡ true
more [] l n h = absurd (cc)
more (m ∷ names) l n h = or_more (m == n) (has names n) (has (names ++ l) n) (more names l n) h

same_self : (n : ℕ) → (n == n) ≡ true
same_self n = eq-eqb n n refl

or_true : (b : Bool) → (b || true) ≡ true
or_true true = refl
or_true false = refl

has_last : (names : List ℕ) (n : ℕ) → has (names ++ n ∷ []) n ≡ true
has_last [] n = ap (λ b. b || false) (same_self n)
has_last (m ∷ names) n = ap (λ b. (m == n) || b) (has_last names n) ∙ or_true (m == n)

or_cases : (b c : Bool) → (b || c) ≡ true → (b ≡ true) ⊎ (c ≡ true)
or_cases true c h = inl refl
or_cases false c h = inr h

-- a name of a list is its first or one of the rest
pub has_first : (x n : ℕ) (names : List ℕ) → has (x ∷ names) n ≡ true → (n ≡ x) ⊎ (has names n ≡ true)
has_first x n names h = elim (or_cases (x == n) (has names n) h) [ inl e ↦ inl (sym (eqb-true x n e)) | inr e ↦ inr e ]

pub has_itself : (x : ℕ) (names : List ℕ) → has (x ∷ names) x ≡ true
has_itself x names = ap (λ b. b || has names x) (same_self x)

pub reached_in : (x l : ℕ) (names : List ℕ) → has names l ≡ true → In (Same_atom x l) (equal_to x names)
reached_in x l [] h = absurd (cc)
reached_in x l (n ∷ names) h = elim (has_first n l names h) [ inl e ↦ inl (ap (Same_atom x) e) | inr e ↦ inr (reached_in x l names e) ]

less_one : (a b c d : Bool) → (a ≡ true → c ≡ true) → (b ≡ true → d ≡ true) → one_outside (c && d) ≤ one_outside (a && b)
less_one true true c d f g = let u : c ≡ true = f refl in let v : d ≡ true = g refl in rw u (rw v (omega arith))
less_one true false true true f g = omega arith
less_one true false true false f g = omega arith
less_one true false false d f g = omega arith
less_one false b true true f g = omega arith
less_one false b true false f g = omega arith
less_one false b false d f g = omega arith

less_ends : (a : Atom ℕ) (names l : List ℕ) → ends_outside a (names ++ l) ≤ ends_outside a names
less_ends (Has_atom x t) names l = omega arith
less_ends (Same_atom y z) names l = less_one (has names y) (has names z) (has (names ++ l) y) (has (names ++ l) z) (more names l y) (more names l z)

less : (R : List (Atom ℕ)) (names l : List ℕ) → outside R (names ++ l) ≤ outside R names
less [] names l = omega arith
less (a ∷ R) names l = omega (arith, less R names l, less_ends a names l)

fewer : (R : List (Atom ℕ)) (names l : List ℕ) (a : Atom ℕ) → In a R → ends_outside a (names ++ l) < ends_outside a names → outside R (names ++ l) < outside R names
fewer [] names l a i h = absurd i
fewer (b ∷ R) names l a (inl q) h = let g : ends_outside b (names ++ l) < ends_outside b names = subst (λ c. ends_outside c (names ++ l) < ends_outside c names) q h in omega (arith, less R names l, g)
fewer (b ∷ R) names l a (inr i) h = omega (arith, fewer R names l a i h, less_ends b names l)

inside_now : (a b c d : Bool) → (a && b) ≡ false → c ≡ true → d ≡ true → one_outside (c && d) < one_outside (a && b)
inside_now a b true true h p q = rw h (omega arith)
inside_now a b false d h p q = absurd (cc)
inside_now a b true false h p q = absurd (cc)

and_left : (a b : Bool) → a ≡ false → (a && b) ≡ false
and_left false b h = refl
and_left true b h = absurd (cc)

and_right : (a b : Bool) → b ≡ false → (a && b) ≡ false
and_right false b h = refl
and_right true b h = h

-- each name that is reached brings an equation inside
pub joins_fewer : (R : List (Atom ℕ)) (a : Atom ℕ) (names : List ℕ) (m : ℕ) → In a R → JoinsOne a names m → outside R (names ++ m ∷ []) < outside R names
joins_fewer R (Has_atom y t) names m i j = absurd j
joins_fewer R (Same_atom l r) names m i (inl j) =
    let e : m ≡ r = j.2 in
    subst (λ n. outside R (names ++ n ∷ []) < outside R names) (sym e) (fewer R names (r ∷ []) (Same_atom l r) i (inside_now (has names l) (has names r) (has (names ++ r ∷ []) l) (has (names ++ r ∷ []) r) (and_right (has names l) (has names r) j.1) (more names (r ∷ []) l j.0) (has_last names r)))
joins_fewer R (Same_atom l r) names m i (inr j) =
    let e : m ≡ l = j.2 in
    subst (λ n. outside R (names ++ n ∷ []) < outside R names) (sym e) (fewer R names (l ∷ []) (Same_atom l r) i (inside_now (has names l) (has names r) (has (names ++ l ∷ []) l) (has (names ++ l ∷ []) r) (and_left (has names l) (has names r) j.0) (has_last names l) (more names (l ∷ []) r j.1)))

-- where no equation leads on the whole class is reached
pub joined_level : (R : List (Atom ℕ)) (names : List ℕ) → ((l r : ℕ) → In (Same_atom l r) R → has names l ≡ has names r) → (x y : ℕ) → Joined R x y → has names x ≡ has names y
joined_level R names c _ _ (Joined_itself x) = refl
joined_level R names c _ _ (Joined_right x y i) = c x y i
joined_level R names c _ _ (Joined_left x y i) = sym (c y x i)
joined_level R names c _ _ (Joined_through x y z j k) = joined_level R names c x y j ∙ joined_level R names c y z k

pub in_place : (R : List (Atom ℕ)) (a : Atom ℕ) (k : ℕ) → slice_get R k ≡ Some a → In a R
in_place [] a k e = absurd (cc)
in_place (b ∷ R) a zero e = inl (sym (some_is b a e))
in_place (b ∷ R) a (suc k) e = inr (in_place R a k e)

-- the places before this one are level
abbrev pub LevelBelow : ℕ → List (Atom ℕ) → List ℕ → Type 0
LevelBelow n R names = (k : ℕ) (a : Atom ℕ) → k < n → slice_get R k ≡ Some a → IsLevel a names

last_or_below : (k n : ℕ) → k < n + 1 → (k < n) ⊎ (k ≡ n)
last_or_below zero zero h = inr refl
last_or_below zero (suc n) h = inl (omega arith)
last_or_below (suc k) zero h = absurd (omega arith)
last_or_below (suc k) (suc n) h = elim (last_or_below k n (omega arith)) [
  | inl l ↦ inl (omega arith)
  | inr e ↦ inr (ap suc e)
]

pub level_next : (R : List (Atom ℕ)) (names : List ℕ) (i : ℕ) (a : Atom ℕ) → slice_get R i ≡ Some a → IsLevel a names → LevelBelow i R names → LevelBelow (i + 1) R names
level_next R names i a at level below k b h g = elim (last_or_below k i h) [
  | inl l ↦ below k b l g
  | inr e ↦ subst (λ c. IsLevel c names) (some_is a b (sym at ∙ sym (ap (slice_get R) e) ∙ g)) level
]

place_of : (R : List (Atom ℕ)) (a : Atom ℕ) → In a R → (k : ℕ) × (k < length R) × (slice_get R k ≡ Some a)
place_of [] a i = absurd i
place_of (b ∷ R) a (inl e) = (zero, omega arith, ap Some (sym e))
place_of (b ∷ R) a (inr i) = let r = place_of R a i in (suc r.0, omega (arith, r.1), r.2)

pub level_all : (R : List (Atom ℕ)) (names : List ℕ) (i : ℕ) → length R ≤ i → LevelBelow i R names → (l r : ℕ) → In (Same_atom l r) R → has names l ≡ has names r
level_all R names i h below l r j = let p = place_of R (Same_atom l r) j in below p.0 (Same_atom l r) (omega (arith, p.1, h)) p.2

pub has_rest : (x n : ℕ) (names : List ℕ) → (x ≡ n → ⊥) → has names n ≡ has (x ∷ names) n
has_rest x n names f = by_test (x == n) refl
  where
    by_test : (b : Bool) → (x == n) ≡ b → has names n ≡ has (x ∷ names) n
    by_test true e = absurd (f (eqb-true x n e))
    by_test false e = ap (λ c. c || has names n) (sym e)

-- two answers that differ
other_false : (b c : Bool) → beq b c ≡ false → b ≡ true → c ≡ false
other_false true true n e = absurd (cc)
other_false true false n e = refl
other_false false c n e = absurd (cc)

other_true : (b c : Bool) → beq b c ≡ false → b ≡ false → c ≡ true
other_true false false n e = absurd (cc)
other_true false true n e = refl
other_true true c n e = absurd (cc)

from_first : (x n : ℕ) (names : List ℕ) (Q : List (Atom ℕ)) → has (x ∷ names) n ≡ true → ((k : ℕ) → has names k ≡ true → In (Same_atom x k) Q) → (n ≡ x) ⊎ In (Same_atom x n) Q
from_first x n names Q h all = elim (has_first x n names h) [ inl e ↦ inl e | inr e ↦ inr (all n e) ]

-- an equation over which a name is reached, from its left side or from its right
pub reaches_right : (a : Atom ℕ) (x : ℕ) (names : List ℕ) (l r : ℕ) (p q : List ViewStep) (b c : Bool) → a ≡ Same_atom l r → b ≡ has (x ∷ names) l → c ≡ has (x ∷ names) r → beq b c ≡ false → b ≡ true → Follows x l r (plain_steps p) (plain_steps q) → Reaches (Some r) a x names p q
reaches_right a x names l r p q b c is f g n t steps = subst (λ (e : Atom ℕ). JoinsOne e (x ∷ names) r × SaysEqual e x names r p q) (sym is)
    (inl (sym f ∙ t, sym g ∙ other_false b c n t, refl), λ D Q i all. steps D Q i (from_first x l names Q (sym f ∙ t) all))

pub reaches_left : (a : Atom ℕ) (x : ℕ) (names : List ℕ) (l r : ℕ) (p q : List ViewStep) (b c : Bool) → a ≡ Same_atom l r → b ≡ has (x ∷ names) l → c ≡ has (x ∷ names) r → beq b c ≡ false → b ≡ false → FollowsBack x l r (plain_steps p) (plain_steps q) → Reaches (Some l) a x names p q
reaches_left a x names l r p q b c is f g n t steps = subst (λ (e : Atom ℕ). JoinsOne e (x ∷ names) l × SaysEqual e x names l p q) (sym is)
    (inr (sym f ∙ t, sym g ∙ other_true b c n t, refl), λ D Q i all. steps D Q i (from_first x r names Q (sym g ∙ other_true b c n t) all))

or_false : (b c d : Bool) → (b || c) ≡ false → (c ≡ false → d ≡ false) → (b || d) ≡ false
or_false true c d h f = absurd (cc)
or_false false c d h f = f h

-- the wanted name isn't reached as yet
pub not_first : (x n : ℕ) (names : List ℕ) → (x ≡ n → ⊥) → names ≡ [] → has (x ∷ names) n ≡ false
not_first x n names f e = subst (λ l. has (x ∷ l) n ≡ false) (sym e) (sym (has_rest x n [] f))

not_end : (names : List ℕ) (m r : ℕ) → has names r ≡ false → (m ≡ r → ⊥) → has (names ++ m ∷ []) r ≡ false
not_end [] m r h f = sym (has_rest m r [] f)
not_end (n ∷ names) m r h f = or_false (n == r) (has names r) (has (names ++ m ∷ []) r) h (λ g. not_end names m r g f)

pub not_more : (x : ℕ) (names all : List ℕ) (m r : ℕ) → has (x ∷ names) r ≡ false → (m ≡ r → ⊥) → all ≡ names ++ m ∷ [] → has (x ∷ all) r ≡ false
not_more x names all m r h f e = subst (λ l. has (x ∷ l) r ≡ false) (sym e) (not_end (x ∷ names) m r h f)

-- so the search comes to it
pub search_goes_on : (o : Option ℕ) (R : List (Atom ℕ)) (x z : ℕ) (names : List ℕ) (p q : List ViewStep) → Joined R x z → has (x ∷ names) z ≡ false → ReachesOne o R x names p q → (m : ℕ) × (o ≡ Some m)
search_goes_on (Some m) R x z names p q j h r = (m, refl)
search_goes_on None R x z names p q j h r = let e : true ≡ false = sym (has_itself x names) ∙ joined_level R (x ∷ names) r x z j ∙ h in absurd (cc)
