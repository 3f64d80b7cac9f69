-- Permissions under other names. Two ways to name that agree on the names that occur give the same permission, and one naming
-- after another is one naming. So a share may be read under more names, or a signature under its arguments.
use Rattle.std.proofs.Common.{◌≡◌, ◌==◌, ◌||◌, ℕ, zero, suc, ◌<◌, Bool, true, List, [], ◌∷◌, ◌++◌, length, map, slice_index_or, refl, ap, ◌∙◌, subst, arith}
use Rattle.std.specs.List.{list_any}
use Rattle.std.proofs.lemmas.Bool.{eq-eqb, eqb-true}
use Rattle.mz_tree.specs.Plain.{Ty, Atom, Atoms, Int_type, Unknown_type, Dynamic_type, Locked_type, Named_type, Function_type, Block_type, Lock_type, Has_atom, Same_atom, No_atoms, More_atoms, map_ty, map_atom, map_atoms, list_of, atoms_of}
use Rattle.mz_tree.specs.Programs.{Field}
use Rattle.mz_tree.specs.Renaming.{name_at}
use Rattle.mz_decl.specs.Contents.{contents}
use Rattle.mz_perm.specs.Occurrence.{in_atom, in_type, in_guarded, occurs}
use Rattle.mz_named.specs.Configurations.{Value, Int_value}
use Rattle.mz_resource.specs.Meaning.{value_contents}
use Rattle.mz_resource.proofs.Programs.Proper.{AreClosed, AreFieldsClosed}

pub eq_self : (x : ℕ) → (x == x) ≡ true
eq_self x = eq-eqb x x refl

pub eq_is : (x y : ℕ) → (x == y) ≡ true → x ≡ y
eq_is x y e = eqb-true x y e

pub or_left : (a b : Bool) → a ≡ true → (a || b) ≡ true
or_left a b e = grind arith

pub or_right : (a b : Bool) → b ≡ true → (a || b) ≡ true
or_right a b e = grind arith

pub cons_is : {A : Type 0} {a b : A} {p q : List A} → a ≡ b → p ≡ q → a ∷ p ≡ b ∷ q
cons_is d e = cc

pub append_is : {A : Type 0} {p q r s : List A} → p ≡ q → r ≡ s → p ++ r ≡ q ++ s
append_is d e = cc

-- under two ways to name that agree on what occurs
pub map_agree : {M : Type 0} (f g : ℕ → M) (xs : List ℕ) → ((x : ℕ) → list_any (λ n. n == x) xs ≡ true → f x ≡ g x) → map f xs ≡ map g xs
map_agree f g [] h = refl
map_agree f g (x ∷ xs) h = cons_is (h x (or_left _ _ (eq_self x))) (map_agree f g xs (λ y o. h y (or_right _ _ o)))

mutual
  ty_agree : {M : Type 0} (f g : ℕ → M) (t : Ty ℕ) → ((x : ℕ) → in_type x t ≡ true → f x ≡ g x) → map_ty f t ≡ map_ty g t
  ty_agree f g Int_type h = refl
  ty_agree f g Unknown_type h = refl
  ty_agree f g Dynamic_type h = refl
  ty_agree f g Locked_type h = refl
  ty_agree f g (Named_type d) h = refl
  ty_agree f g (Function_type s) h = refl
  ty_agree f g (Block_type con ys u) h = ap (λ zs. Block_type con zs u) (map_agree f g ys h)
  ty_agree f g (Lock_type p) h = ap Lock_type (atoms_agree f g p h)

  pub atom_agree : {M : Type 0} (f g : ℕ → M) (a : Atom ℕ) → ((x : ℕ) → in_atom x a ≡ true → f x ≡ g x) → map_atom f a ≡ map_atom g a
  atom_agree f g (Has_atom x t) h = let e = ty_agree f g t (λ y o. h y (or_right _ _ o)) in let d = h x (or_left _ _ (eq_self x)) in cc
  atom_agree f g (Same_atom x y) h = let d = h x (or_left _ _ (eq_self x)) in let e = h y (or_right _ _ (eq_self y)) in cc

  pub atoms_agree : {M : Type 0} (f g : ℕ → M) (p : Atoms ℕ) → ((x : ℕ) → in_guarded x p ≡ true → f x ≡ g x) → map_atoms f p ≡ map_atoms g p
  atoms_agree f g No_atoms h = refl
  atoms_agree f g (More_atoms a p) h = let d = atom_agree f g a (λ y o. h y (or_left _ _ o)) in let e = atoms_agree f g p (λ y o. h y (or_right _ _ o)) in cc

pub share_agree : {M : Type 0} (f g : ℕ → M) (R : List (Atom ℕ)) → ((x : ℕ) → occurs x R ≡ true → f x ≡ g x) → map (map_atom f) R ≡ map (map_atom g) R
share_agree f g [] h = refl
share_agree f g (a ∷ R) h = cons_is (atom_agree f g a (λ x o. h x (or_left _ _ o))) (share_agree f g R (λ x o. h x (or_right _ _ o)))

pub map_map : {A B C : Type 0} (f : B → C) (g : A → B) (xs : List A) → map f (map g xs) ≡ map (λ x. f (g x)) xs
map_map f g [] = refl
map_map f g (x ∷ xs) = ap (λ ys. f (g x) ∷ ys) (map_map f g xs)

-- one naming after another
mutual
  ty_twice : {A B C : Type 0} (f : B → C) (g : A → B) (t : Ty A) → map_ty f (map_ty g t) ≡ map_ty (λ x. f (g x)) t
  ty_twice f g Int_type = refl
  ty_twice f g Unknown_type = refl
  ty_twice f g Dynamic_type = refl
  ty_twice f g Locked_type = refl
  ty_twice f g (Named_type d) = refl
  ty_twice f g (Function_type s) = refl
  ty_twice f g (Block_type con ys u) = ap (λ zs. Block_type con zs u) (map_map f g ys)
  ty_twice f g (Lock_type p) = ap Lock_type (atoms_twice f g p)

  pub atom_twice : {A B C : Type 0} (f : B → C) (g : A → B) (a : Atom A) → map_atom f (map_atom g a) ≡ map_atom (λ x. f (g x)) a
  atom_twice f g (Has_atom x t) = ap (Has_atom (f (g x))) (ty_twice f g t)
  atom_twice f g (Same_atom x y) = refl

  pub atoms_twice : {A B C : Type 0} (f : B → C) (g : A → B) (p : Atoms A) → map_atoms f (map_atoms g p) ≡ map_atoms (λ x. f (g x)) p
  atoms_twice f g No_atoms = refl
  atoms_twice f g (More_atoms a p) = let d = atom_twice f g a in let e = atoms_twice f g p in cc

pub share_twice : {A : Type 0} (f : ℕ → A) (g : ℕ → ℕ) (R : List (Atom ℕ)) → map (map_atom f) (map (map_atom g) R) ≡ map (map_atom (λ x. f (g x))) R
share_twice f g [] = refl
share_twice f g (a ∷ R) = cons_is (atom_twice f g a) (share_twice f g R)

-- permissions as a list and inside a type
pub atoms_back : {N : Type 0} (p : List (Atom N)) → list_of (atoms_of p) ≡ p
atoms_back [] = refl
atoms_back (a ∷ p) = ap (λ q. a ∷ q) (atoms_back p)

pub list_named : {N M : Type 0} (f : N → M) (p : Atoms N) → list_of (map_atoms f p) ≡ map (map_atom f) (list_of p)
list_named f No_atoms = refl
list_named f (More_atoms a p) = ap (λ q. map_atom f a ∷ q) (list_named f p)

-- closed permissions under two ways to name that agree below
pub closed_agree : {M : Type 0} (f g : ℕ → M) (n : ℕ) (p : List (Atom ℕ)) → AreClosed n p → ((x : ℕ) → x < n → f x ≡ g x) → map (map_atom f) p ≡ map (map_atom g) p
closed_agree f g n [] c h = refl
closed_agree f g n (a ∷ p) c h = cons_is (atom_agree f g a (λ x o. h x (c.0 x o))) (closed_agree f g n p c.1 h)

-- a place in a list that is mapped
pub index_map : {A B : Type 0} (f : A → B) (d : A) (d' : B) (xs : List A) (n : ℕ) → n < length xs → f (slice_index_or xs n d) ≡ slice_index_or (map f xs) n d'
index_map f d d' [] n h = absurd (omega arith)
index_map f d d' (x ∷ xs) zero h = refl
index_map f d d' (x ∷ xs) (suc n) h = index_map f d d' xs n (omega arith)

-- the contents of fields with names, as values
pub contents_named : (f : ℕ → Value) (ys : List ℕ) (n : ℕ) (fields : List Field) → AreFieldsClosed n fields → n ≡ length ys → map (map_atom f) (contents ys fields) ≡ value_contents (map f ys) fields
contents_named f ys n [] c e = refl
contents_named f ys n (x ∷ fields) c e = cons_is (atom_twice f (name_at ys) x.content ∙ atom_agree _ _ x.content (λ y o. index_map f 0 (Int_value 0) ys y (subst (λ m. y < m) e (c.0 y o)))) (contents_named f ys n fields c.1 e)
