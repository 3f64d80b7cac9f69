-- The test of a join's names says whether it names what is known outside.
use Rattle.std.proofs.Common.{◌≡◌, ◌⊎◌, inl, inr, ◌||◌, ◌&&◌, ◌==◌, ℕ, ◌≤◌, Bool, true, false, nat_le, List, [], ◌∷◌, refl, sym, ap, ◌∙◌, subst}
use Rattle.std.specs.List.{list_any, list_all}
use Rattle.std.proofs.lemmas.Bool.{leb-true, le-leb}
use Rattle.mz_tree.specs.Plain.{Ty, Atom, Atoms, Int_type, Unknown_type, Dynamic_type, Locked_type, Named_type, Function_type, Block_type, Lock_type, Has_atom, Same_atom, No_atoms, More_atoms, atoms_of}
use Rattle.mz_tree.specs.Code.{Command, to_of}
use Rattle.mz_tree.specs.View.{plain_ty, plain_atoms}
use Rattle.mz_tree.specs.declared.types.Ty.{Lock}
use Rattle.mz_tree.specs.declared.types.Atom.{Atom as CodeAtom}
use Rattle.mz_tree.proofs.Views.{plain_lock}
use Rattle.mz_perm.specs.Lists.{In}
use Rattle.mz_perm.specs.Occurrence.{in_type, in_atom, in_guarded, occurs}
use Rattle.mz_deriv.specs.Walks.{NamesOuter}
use Rattle.mz_deriv.specs.Outer.{is_outer, all_in_type, all_in_atom, all_in_guarded, all_in}
use Rattle.mz_deriv.specs.Parts.{SameNames}
use Rattle.mz_deriv.proofs.WrittenNames.{either, or_first, or_second, is_same, same_is, among, any_number}

-- of the permissions that a lock guards
all_of : (test : ℕ → Bool) (p : List (Atom ℕ)) → all_in_guarded test (atoms_of p) ≡ all_in test p
all_of test [] = refl
all_of test (a ∷ p) = ap (λ b. all_in_atom test a && b) (all_of test p)

pub all_in_lock : (test : ℕ → Bool) (atoms slice : List CodeAtom) → slice ≡ atoms → all_in test (plain_atoms slice) ≡ all_in_type test (plain_ty (Lock atoms))
all_in_lock test atoms slice s = ap (λ l. all_in test (plain_atoms l)) s ∙ sym (ap (all_in_type test) (plain_lock atoms) ∙ all_of test (plain_atoms atoms))

and_first : (a b : Bool) → (a && b) ≡ true → a ≡ true
and_first true b e = refl
and_first false b e = absurd (cc)

and_second : (a b : Bool) → (a && b) ≡ true → b ≡ true
and_second true b e = e
and_second false b e = absurd (cc)

and_both : (a b : Bool) → a ≡ true → b ≡ true → (a && b) ≡ true
and_both true b e f = f
and_both false b e f = absurd (cc)

module _ (test : ℕ → Bool) where
  -- a test that holds of all names holds of each that occurs
  held_names : (n : ℕ) (xs : List ℕ) → list_all test xs ≡ true → list_any (λ m. m == n) xs ≡ true → test n ≡ true
  held_names n [] h o = absurd (cc)
  held_names n (x ∷ xs) h o = elim (either (x == n) (list_any (λ m. m == n) xs) o) [
    | inl e ↦ subst (λ m. test m ≡ true) (is_same x n e) (and_first (test x) (list_all test xs) h)
    | inr q ↦ held_names n xs (and_second (test x) (list_all test xs) h) q
  ]

  mutual
    held_type : (n : ℕ) (t : Ty ℕ) → all_in_type test t ≡ true → in_type n t ≡ true → test n ≡ true
    held_type n (Block_type con fields adopts) h o = held_names n fields h o
    held_type n (Lock_type q) h o = held_guarded n q h o
    held_type n (Named_type d) h o = absurd (cc)
    held_type n (Function_type s) h o = absurd (cc)
    held_type n Int_type h o = absurd (cc)
    held_type n Unknown_type h o = absurd (cc)
    held_type n Dynamic_type h o = absurd (cc)
    held_type n Locked_type h o = absurd (cc)

    held_atom : (n : ℕ) (a : Atom ℕ) → all_in_atom test a ≡ true → in_atom n a ≡ true → test n ≡ true
    held_atom n (Has_atom x t) h o = elim (either (x == n) (in_type n t) o) [
      | inl e ↦ subst (λ m. test m ≡ true) (is_same x n e) (and_first (test x) (all_in_type test t) h)
      | inr q ↦ held_type n t (and_second (test x) (all_in_type test t) h) q
    ]
    held_atom n (Same_atom x y) h o = elim (either (x == n) (y == n) o) [
      | inl e ↦ subst (λ m. test m ≡ true) (is_same x n e) (and_first (test x) (test y) h)
      | inr e ↦ subst (λ m. test m ≡ true) (is_same y n e) (and_second (test x) (test y) h)
    ]

    held_guarded : (n : ℕ) (q : Atoms ℕ) → all_in_guarded test q ≡ true → in_guarded n q ≡ true → test n ≡ true
    held_guarded n No_atoms h o = absurd (cc)
    held_guarded n (More_atoms a q) h o = elim (either (in_atom n a) (in_guarded n q) o) [
      | inl e ↦ held_atom n a (and_first (all_in_atom test a) (all_in_guarded test q) h) e
      | inr e ↦ held_guarded n q (and_second (all_in_atom test a) (all_in_guarded test q) h) e
    ]

  held : (n : ℕ) (p : List (Atom ℕ)) → all_in test p ≡ true → occurs n p ≡ true → test n ≡ true
  held n [] h o = absurd (cc)
  held n (a ∷ p) h o = elim (either (in_atom n a) (list_any (in_atom n) p) o) [
    | inl e ↦ held_atom n a (and_first (all_in_atom test a) (all_in test p) h) e
    | inr e ↦ held n p (and_second (all_in_atom test a) (all_in test p) h) e
  ]

  -- and one that holds of each that occurs holds of all
  all_names : (xs : List ℕ) → ((n : ℕ) → list_any (λ m. m == n) xs ≡ true → test n ≡ true) → list_all test xs ≡ true
  all_names [] h = refl
  all_names (x ∷ xs) h = and_both (test x) (list_all test xs) (h x (or_first (x == x) (list_any (λ m. m == x) xs) (same_is x x refl))) (all_names xs (λ n o. h n (or_second (x == n) (list_any (λ m. m == n) xs) o)))

  mutual
    all_type : (t : Ty ℕ) → ((n : ℕ) → in_type n t ≡ true → test n ≡ true) → all_in_type test t ≡ true
    all_type (Block_type con fields adopts) h = all_names fields h
    all_type (Lock_type q) h = all_guarded q h
    all_type (Named_type d) h = refl
    all_type (Function_type s) h = refl
    all_type Int_type h = refl
    all_type Unknown_type h = refl
    all_type Dynamic_type h = refl
    all_type Locked_type h = refl

    all_atom : (a : Atom ℕ) → ((n : ℕ) → in_atom n a ≡ true → test n ≡ true) → all_in_atom test a ≡ true
    all_atom (Has_atom x t) h = and_both (test x) (all_in_type test t) (h x (or_first (x == x) (in_type x t) (same_is x x refl))) (all_type t (λ n o. h n (or_second (x == n) (in_type n t) o)))
    all_atom (Same_atom x y) h = and_both (test x) (test y) (h x (or_first (x == x) (y == x) (same_is x x refl))) (h y (or_second (x == y) (y == y) (same_is y y refl)))

    all_guarded : (q : Atoms ℕ) → ((n : ℕ) → in_guarded n q ≡ true → test n ≡ true) → all_in_guarded test q ≡ true
    all_guarded No_atoms h = refl
    all_guarded (More_atoms a q) h = and_both (all_in_atom test a) (all_in_guarded test q) (all_atom a (λ n o. h n (or_first (in_atom n a) (in_guarded n q) o))) (all_guarded q (λ n o. h n (or_second (in_atom n a) (in_guarded n q) o)))

  all_atoms : (p : List (Atom ℕ)) → ((n : ℕ) → occurs n p ≡ true → test n ≡ true) → all_in test p ≡ true
  all_atoms [] h = refl
  all_atoms (a ∷ p) h = and_both (all_in_atom test a) (all_in test p) (all_atom a (λ n o. h n (or_first (in_atom n a) (list_any (in_atom n) p) o))) (all_atoms p (λ n o. h n (or_second (in_atom n a) (list_any (in_atom n) p) o)))

module _ (bound : List ℕ) (R : List (Atom ℕ)) (c : Command) (join : List (Atom ℕ)) where
  abbrev Test : ℕ → Bool
  Test = is_outer bound R (to_of c)

  -- what the test says of one name
  abbrev Known : ℕ → Bool
  Known n = (n == to_of c) || list_any (λ m. m == n) bound

  abbrev Made : ℕ → Bool
  Made n = nat_le 256 n && occurs n R

  said : (names : List ℕ) → SameNames bound names → (n : ℕ) → Test n ≡ true → (n ≡ to_of c) ⊎ (In n names ⊎ ((256 ≤ n) × (occurs n R ≡ true)))
  said names s n e = elim (either (Known n) (Made n) e) [
    | inl o ↦ (elim (either (n == to_of c) (list_any (λ m. m == n) bound) o) [
      | inl q ↦ inl (is_same n (to_of c) q)
      | inr q ↦ inr (inl ((s n).0 (any_number n bound q)))
    ])
    | inr q ↦ inr (inr (leb-true 256 n (and_first (nat_le 256 n) (occurs n R) q), and_second (nat_le 256 n) (occurs n R) q))
  ]

  tells : (names : List ℕ) → SameNames bound names → (n : ℕ) → (n ≡ to_of c) ⊎ (In n names ⊎ ((256 ≤ n) × (occurs n R ≡ true))) → Test n ≡ true
  tells names s n (inl e) = or_first (Known n) (Made n) (or_first (n == to_of c) (list_any (λ m. m == n) bound) (same_is n (to_of c) (sym e)))
  tells names s n (inr (inl i)) = or_first (Known n) (Made n) (or_second (n == to_of c) (list_any (λ m. m == n) bound) (among n bound ((s n).1 i)))
  tells names s n (inr (inr o)) = or_second (Known n) (Made n) (and_both (nat_le 256 n) (occurs n R) (le-leb 256 n o.0) o.1)

  pub outer_names : (names : List ℕ) → SameNames bound names → all_in Test join ≡ true → NamesOuter names R c join
  outer_names names s e n o = said names s n (held Test n join e o)

  pub not_outer : (names : List ℕ) → SameNames bound names → all_in Test join ≡ false → NamesOuter names R c join → ⊥
  not_outer names s e o = both (all_in Test join) e (all_atoms Test join (λ n q. tells names s n (o n q)))
    where
      both : (b : Bool) → b ≡ false → b ≡ true → ⊥
      both true e f = absurd (cc)
      both false e f = absurd (cc)
