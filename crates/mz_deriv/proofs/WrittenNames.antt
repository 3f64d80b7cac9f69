-- The names of a permission are those that occur in it; those that occur in permissions that can be written are numbers.
use Rattle.std.proofs.Common.{◌≡◌, ◌⊎◌, inl, inr, ◌==◌, ℕ, Bool, true, false, ◌||◌, List, [], ◌∷◌, refl, sym, subst}
use Rattle.std.specs.List.{list_any}
use Rattle.std.proofs.lemmas.Bool.{eq-eqb, eqb-true}
use Rattle.mz_tree.specs.Plain.{Ty, Atom, Atoms, Int_type, Unknown_type, Dynamic_type, Locked_type, Named_type, Function_type, Block_type, Lock_type, Has_atom, Same_atom, No_atoms, More_atoms}
use Rattle.mz_tree.specs.Programs.{Program}
use Rattle.mz_perm.specs.Lists.{In}
use Rattle.mz_perm.specs.Occurrence.{in_type, in_atom, in_guarded, occurs}
use Rattle.mz_view.specs.Spots.{names_in_type, names_in_atom, names_in}
use Rattle.mz_deriv.specs.Spelled.{IsNumber}
use Rattle.mz_deriv.proofs.Membership.{in_parts, in_left, in_right}
use Rattle.mz_deriv.proofs.Written.{AllWritten}

-- ---- names that occur

pub either : (a b : Bool) → (a || b) ≡ true → (a ≡ true) ⊎ (b ≡ true)
either true b e = inl refl
either false b e = inr e

pub or_first : (a b : Bool) → a ≡ true → (a || b) ≡ true
or_first true b e = refl
or_first false b e = absurd (cc)

pub or_second : (a b : Bool) → b ≡ true → (a || b) ≡ true
or_second true b e = refl
or_second false b e = e

pub is_same : (x n : ℕ) → (x == n) ≡ true → x ≡ n
is_same x n e = eqb-true x n e

pub same_is : (x n : ℕ) → n ≡ x → (x == n) ≡ true
same_is x n e = eq-eqb x n (sym e)

pub among : (n : ℕ) (xs : List ℕ) → In n xs → list_any (λ m. m == n) xs ≡ true
among n [] i = absurd i
among n (x ∷ xs) (inl e) = or_first (x == n) (list_any (λ m. m == n) xs) (same_is x n e)
among n (x ∷ xs) (inr i) = or_second (x == n) (list_any (λ m. m == n) xs) (among n xs i)

-- a name of a permission occurs in it
mutual
  occurs_type : (n : ℕ) (t : Ty ℕ) → In n (names_in_type t) → in_type n t ≡ true
  occurs_type n (Block_type con fields adopts) i = among n fields i
  occurs_type n (Lock_type guarded) i = occurs_atoms n guarded i
  occurs_type n (Named_type d) i = absurd i
  occurs_type n (Function_type s) i = absurd i
  occurs_type n Int_type i = absurd i
  occurs_type n Unknown_type i = absurd i
  occurs_type n Dynamic_type i = absurd i
  occurs_type n Locked_type i = absurd i

  occurs_atom : (n : ℕ) (a : Atom ℕ) → In n (names_in_atom a) → in_atom n a ≡ true
  occurs_atom n (Has_atom x t) (inl e) = or_first (x == n) (in_type n t) (same_is x n e)
  occurs_atom n (Has_atom x t) (inr i) = or_second (x == n) (in_type n t) (occurs_type n t i)
  occurs_atom n (Same_atom x y) (inl e) = or_first (x == n) (y == n) (same_is x n e)
  occurs_atom n (Same_atom x y) (inr (inl e)) = or_second (x == n) (y == n) (same_is y n e)
  occurs_atom n (Same_atom x y) (inr (inr i)) = absurd i

  occurs_atoms : (n : ℕ) (q : Atoms ℕ) → In n (names_in q) → in_guarded n q ≡ true
  occurs_atoms n No_atoms i = absurd i
  occurs_atoms n (More_atoms a q) i = elim (in_parts n (names_in_atom a) (names_in q) i) [
    | inl j ↦ or_first (in_atom n a) (in_guarded n q) (occurs_atom n a j)
    | inr j ↦ or_second (in_atom n a) (in_guarded n q) (occurs_atoms n q j)
  ]

pub occurs_in : (n : ℕ) (a : Atom ℕ) (R : List (Atom ℕ)) → In a R → In n (names_in_atom a) → occurs n R ≡ true
occurs_in n a [] i j = absurd i
occurs_in n a (b ∷ R) (inl e) j = or_first (in_atom n b) (list_any (in_atom n) R) (subst (λ z. in_atom n z ≡ true) e (occurs_atom n a j))
occurs_in n a (b ∷ R) (inr i) j = or_second (in_atom n b) (list_any (in_atom n) R) (occurs_in n a R i j)

-- and what occurs in permissions that can be written is a number
pub any_number : (n : ℕ) (xs : List ℕ) → list_any (λ m. m == n) xs ≡ true → In n xs
any_number n [] e = absurd (cc)
any_number n (x ∷ xs) e = elim (either (x == n) (list_any (λ m. m == n) xs) e) [ inl h ↦ inl (sym (is_same x n h)) | inr h ↦ inr (any_number n xs h) ]

mutual
  name_of_type : (n : ℕ) (t : Ty ℕ) → in_type n t ≡ true → In n (names_in_type t)
  name_of_type n (Block_type con fields adopts) e = any_number n fields e
  name_of_type n (Lock_type guarded) e = name_of_atoms n guarded e
  name_of_type n (Named_type d) e = absurd (cc)
  name_of_type n (Function_type s) e = absurd (cc)
  name_of_type n Int_type e = absurd (cc)
  name_of_type n Unknown_type e = absurd (cc)
  name_of_type n Dynamic_type e = absurd (cc)
  name_of_type n Locked_type e = absurd (cc)

  name_of_atom : (n : ℕ) (a : Atom ℕ) → in_atom n a ≡ true → In n (names_in_atom a)
  name_of_atom n (Has_atom x t) e = elim (either (x == n) (in_type n t) e) [ inl h ↦ inl (sym (is_same x n h)) | inr h ↦ inr (name_of_type n t h) ]
  name_of_atom n (Same_atom x y) e = elim (either (x == n) (y == n) e) [ inl h ↦ inl (sym (is_same x n h)) | inr h ↦ inr (inl (sym (is_same y n h))) ]

  name_of_atoms : (n : ℕ) (q : Atoms ℕ) → in_guarded n q ≡ true → In n (names_in q)
  name_of_atoms n No_atoms e = absurd (cc)
  name_of_atoms n (More_atoms a q) e = elim (either (in_atom n a) (in_guarded n q) e) [
    | inl h ↦ in_left n (names_in_atom a) (names_in q) (name_of_atom n a h)
    | inr h ↦ in_right n (names_in_atom a) (names_in q) (name_of_atoms n q h)
  ]

pub occurring_number : (p : Program) (n : ℕ) (R : List (Atom ℕ)) → AllWritten p R → occurs n R ≡ true → IsNumber n
occurring_number p n [] all e = absurd (cc)
occurring_number p n (a ∷ R) all e = elim (either (in_atom n a) (list_any (in_atom n) R) e) [
  | inl h ↦ (all a (inl refl)).names n (name_of_atom n a h)
  | inr h ↦ occurring_number p n R (λ b i. all b (inr i)) h
]
