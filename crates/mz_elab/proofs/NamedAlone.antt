-- A test of each name of a type or of a permission says whether these names alone stand in it.
use Rattle.std.proofs.Common.{◌≡◌, inl, inr, ◌&&◌, ◌==◌, nat_le, nat_lt, ℕ, Bool, true, false, List, [], ◌∷◌, refl, sym, subst}
use Rattle.std.specs.List.{list_any, list_all}
use Rattle.std.proofs.lemmas.Bool.{leb-true, le-leb, ltb-true, lt-ltb}
use Rattle.mz_tree.specs.Plain.{Ty, Atom, Atoms, Int_type, Unknown_type, Dynamic_type, Locked_type, Named_type, Function_type, Block_type, Lock_type, Has_atom, Same_atom, No_atoms, More_atoms}
use Rattle.mz_tree.specs.Saying.{Says}
use Rattle.mz_perm.specs.Occurrence.{in_type, in_atom, in_guarded}
use Rattle.mz_deriv.specs.Outer.{all_in_type, all_in_atom, all_in_guarded}
use Rattle.mz_deriv.proofs.WrittenNames.{among as is_among, either, or_first, or_second, is_same, same_is, any_number}
use Rattle.mz_elab.specs.Standing.{IsKnown, OfAtom}
use Rattle.mz_elab.specs.Sought.{among, known}

and_first : (a b : Bool) → (a && b) ≡ true → a ≡ true
and_first true b e = refl
and_first false b e = absurd (cc)

and_second : (a b : Bool) → (a && b) ≡ true → b ≡ true
and_second true b e = e
and_second false b e = absurd (cc)

and_both : (a b : Bool) → a ≡ true → b ≡ true → (a && b) ≡ true
and_both true b e f = f
and_both false b e f = absurd (cc)

module _ (test : ℕ → Bool) where
  -- a test that holds of all names holds of each that occurs
  held_names : (n : ℕ) (xs : List ℕ) → list_all test xs ≡ true → list_any (λ m. m == n) xs ≡ true → test n ≡ true
  held_names n [] h o = absurd (cc)
  held_names n (x ∷ xs) h o = elim (either (x == n) (list_any (λ m. m == n) xs) o) [
    | inl e ↦ subst (λ m. test m ≡ true) (is_same x n e) (and_first (test x) (list_all test xs) h)
    | inr q ↦ held_names n xs (and_second (test x) (list_all test xs) h) q
  ]

  mutual
    pub held_type : (n : ℕ) (t : Ty ℕ) → all_in_type test t ≡ true → in_type n t ≡ true → test n ≡ true
    held_type n (Block_type con fields adopts) h o = held_names n fields h o
    held_type n (Lock_type q) h o = held_guarded n q h o
    held_type n (Named_type d) h o = absurd (cc)
    held_type n (Function_type s) h o = absurd (cc)
    held_type n Int_type h o = absurd (cc)
    held_type n Unknown_type h o = absurd (cc)
    held_type n Dynamic_type h o = absurd (cc)
    held_type n Locked_type h o = absurd (cc)

    pub held_atom : (n : ℕ) (a : Atom ℕ) → all_in_atom test a ≡ true → in_atom n a ≡ true → test n ≡ true
    held_atom n (Has_atom x t) h o = elim (either (x == n) (in_type n t) o) [
      | inl e ↦ subst (λ m. test m ≡ true) (is_same x n e) (and_first (test x) (all_in_type test t) h)
      | inr q ↦ held_type n t (and_second (test x) (all_in_type test t) h) q
    ]
    held_atom n (Same_atom x y) h o = elim (either (x == n) (y == n) o) [
      | inl e ↦ subst (λ m. test m ≡ true) (is_same x n e) (and_first (test x) (test y) h)
      | inr e ↦ subst (λ m. test m ≡ true) (is_same y n e) (and_second (test x) (test y) h)
    ]

    held_guarded : (n : ℕ) (q : Atoms ℕ) → all_in_guarded test q ≡ true → in_guarded n q ≡ true → test n ≡ true
    held_guarded n No_atoms h o = absurd (cc)
    held_guarded n (More_atoms a q) h o = elim (either (in_atom n a) (in_guarded n q) o) [
      | inl e ↦ held_atom n a (and_first (all_in_atom test a) (all_in_guarded test q) h) e
      | inr e ↦ held_guarded n q (and_second (all_in_atom test a) (all_in_guarded test q) h) e
    ]

  -- and one that holds of each that occurs holds of all
  all_names : (xs : List ℕ) → ((n : ℕ) → list_any (λ m. m == n) xs ≡ true → test n ≡ true) → list_all test xs ≡ true
  all_names [] h = refl
  all_names (x ∷ xs) h = and_both (test x) (list_all test xs) (h x (or_first (x == x) (list_any (λ m. m == x) xs) (same_is x x refl))) (all_names xs (λ n o. h n (or_second (x == n) (list_any (λ m. m == n) xs) o)))

  mutual
    pub all_type : (t : Ty ℕ) → ((n : ℕ) → in_type n t ≡ true → test n ≡ true) → all_in_type test t ≡ true
    all_type (Block_type con fields adopts) h = all_names fields h
    all_type (Lock_type q) h = all_guarded q h
    all_type (Named_type d) h = refl
    all_type (Function_type s) h = refl
    all_type Int_type h = refl
    all_type Unknown_type h = refl
    all_type Dynamic_type h = refl
    all_type Locked_type h = refl

    pub all_atom : (a : Atom ℕ) → ((n : ℕ) → in_atom n a ≡ true → test n ≡ true) → all_in_atom test a ≡ true
    all_atom (Has_atom x t) h = and_both (test x) (all_in_type test t) (h x (or_first (x == x) (in_type x t) (same_is x x refl))) (all_type t (λ n o. h n (or_second (x == n) (in_type n t) o)))
    all_atom (Same_atom x y) h = and_both (test x) (test y) (h x (or_first (x == x) (y == x) (same_is x x refl))) (h y (or_second (x == y) (y == y) (same_is y y refl)))

    all_guarded : (q : Atoms ℕ) → ((n : ℕ) → in_guarded n q ≡ true → test n ≡ true) → all_in_guarded test q ≡ true
    all_guarded No_atoms h = refl
    all_guarded (More_atoms a q) h = and_both (all_in_atom test a) (all_in_guarded test q) (all_atom a (λ n o. h n (or_first (in_atom n a) (in_guarded n q) o))) (all_guarded q (λ n o. h n (or_second (in_atom n a) (in_guarded n q) o)))

-- what the test of known names says
pub known_is : (names : List ℕ) (next n : ℕ) → known names next n ≡ true → IsKnown names next n
known_is names next n e = elim (either (among names n) (nat_le 256 n && nat_lt n next) e) [
  | inl h ↦ inl (any_number n names h)
  | inr h ↦ inr (leb-true 256 n (and_first (nat_le 256 n) (nat_lt n next) h), ltb-true n next (and_second (nat_le 256 n) (nat_lt n next) h))
]

pub is_known : (names : List ℕ) (next n : ℕ) → IsKnown names next n → known names next n ≡ true
is_known names next n (inl i) = or_first (among names n) (nat_le 256 n && nat_lt n next) (is_among n names i)
is_known names next n (inr b) = or_second (among names n) (nat_le 256 n && nat_lt n next) (and_both (nat_le 256 n) (nat_lt n next) (le-leb 256 n b.0) (lt-ltb n next b.1))

not_both : (b : Bool) → false ≡ b → b ≡ true → ⊥
not_both true e f = absurd (cc)
not_both false e f = absurd (cc)

-- so of a type and of a permission
pub type_says : (names : List ℕ) (next : ℕ) (t : Ty ℕ) (b : Bool) → b ≡ all_in_type (known names next) t → Says b ((n : ℕ) → in_type n t ≡ true → IsKnown names next n)
type_says names next t true e = λ n i. known_is names next n (held_type (known names next) n t (sym e) i)
type_says names next t false e = λ f. not_both (all_in_type (known names next) t) e (all_type (known names next) t (λ n i. is_known names next n (f n i)))

pub atom_says : (names : List ℕ) (next : ℕ) (a : Atom ℕ) (b : Bool) → b ≡ all_in_atom (known names next) a → Says b (OfAtom (IsKnown names next) a)
atom_says names next a true e = λ n i. known_is names next n (held_atom (known names next) n a (sym e) i)
atom_says names next a false e = λ f. not_both (all_in_atom (known names next) a) e (all_atom (known names next) a (λ n i. is_known names next n (f n i)))
