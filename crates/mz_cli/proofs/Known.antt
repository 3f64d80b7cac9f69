-- What is known of the names of a program of cells before a command: the permission of each name says what its kind is, and
-- no later name occurs.
use Rattle.std.proofs.Common.{◌≡◌, inl, inr, ℕ, ◌==◌, ◌<◌, ◌≤◌, Bool, true, false, ◌||◌, List, [], ◌∷◌, ◌++◌, length, Some, refl, sym, ap, ◌∙◌, subst, slice_get, arith}
use Rattle.std.specs.List.{list_any}
use Rattle.std.proofs.lemmas.List.Folds.{list_any-append}
use Rattle.std.proofs.lemmas.Option.{slice_get_within}
use Rattle.std.proofs.lemmas.Bool.{cases_eq}
use Rattle.std.proofs.lemmas.Bool.Decides.{eqb_tells}
use Rattle.mz_tree.specs.Plain.{Atom, Int_type, Unknown_type, Has_atom, Same_atom}
use Rattle.mz_perm.specs.Lists.{In, TakesOne}
use Rattle.mz_perm.specs.Occurrence.{in_atom, occurs}
use Rattle.mz_perm.proofs.Lists.{in_end, in_front}
use Rattle.mz_cli.proofs.Places.{some_is, stays, end_here, end_there}
use Rattle.mz_cli.proofs.NumberMaps.{Numbers, put_number, number_here, number_there}
use Rattle.mz_cli.proofs.NameKinds.{NameKind, Int_kind, Unit_kind, Cell_kind, Kinds}
use Rattle.mz_cli.proofs.Proposed.{cell_atom}

-- ---- lists of permissions

-- what isn't the one that is taken out stays
in_rest : {A : Type 0} (a b : A) (xs ys : List A) → TakesOne a xs ys → (b ≡ a → ⊥) → In b xs → In b ys
in_rest a b [] ys taken other i = absurd i
in_rest a b (x ∷ xs) ys (inl (is, rest)) other (inl e) = absurd (other (e ∙ sym is))
in_rest a b (x ∷ xs) ys (inl (is, rest)) other (inr i) = subst (In b) (sym rest) i
in_rest a b (x ∷ xs) ys (inr (zs, rest, taken)) other (inl e) = subst (In b) (sym rest) (inl e)
in_rest a b (x ∷ xs) ys (inr (zs, rest, taken)) other (inr i) = subst (In b) (sym rest) (inr (in_rest a b xs zs taken other i))

-- none of two
neither : (b c : Bool) → (b || c) ≡ false → (b ≡ false) × (c ≡ false)
neither false c is = (refl, is)
neither true c is = cc

both_none : (b c : Bool) → b ≡ false → c ≡ false → (b || c) ≡ false
both_none false c b_is c_is = c_is
both_none true c b_is c_is = cc

-- where no element passes a test, none does of what is left
pub none_left : {A : Type 0} (test : A → Bool) (a : A) (xs ys : List A) → TakesOne a xs ys → list_any test xs ≡ false → list_any test ys ≡ false
none_left test a [] ys taken none = absurd taken
none_left test a (x ∷ xs) ys (inl (is, rest)) none = subst (λ l. list_any test l ≡ false) (sym rest) ((neither (test x) (list_any test xs) none).1)
none_left test a (x ∷ xs) ys (inr (zs, rest, taken)) none =
    let parts = neither (test x) (list_any test xs) none in
    subst (λ l. list_any test l ≡ false) (sym rest) (both_none (test x) (list_any test zs) parts.0 (none_left test a xs zs taken parts.1))

-- nor of one more that doesn't
none_more : {A : Type 0} (test : A → Bool) (xs : List A) (a : A) → list_any test xs ≡ false → test a ≡ false → list_any test (xs ++ a ∷ []) ≡ false
none_more test xs a none other = list_any-append test xs (a ∷ []) ∙ both_none (list_any test xs) (list_any test (a ∷ [])) none (both_none (test a) false other refl)

-- ---- names that don't occur

-- a name below others is none of them
other_name : (n x : ℕ) → n < x → (n == x) ≡ false
other_name n x below = elim (eqb_tells n x) [
  | inl t ↦ absurd (omega (arith, t.1, below))
  | inr t ↦ t.0
]

-- no name from this one on occurs
abbrev pub IsFreshFrom : ℕ → List (Atom ℕ) → Type 0
IsFreshFrom n R = (x : ℕ) → n ≤ x → occurs x R ≡ false

pub fresh_more : (n m : ℕ) (R : List (Atom ℕ)) (a : Atom ℕ) → IsFreshFrom n R → n ≤ m → ((x : ℕ) → m ≤ x → in_atom x a ≡ false) → IsFreshFrom m (R ++ a ∷ [])
fresh_more n m R a fresh most other x from = none_more (in_atom x) R a (fresh x (omega (arith, most, from))) (other x from)

pub no_name_has : (to m : ℕ) → to < m → (x : ℕ) → m ≤ x → in_atom x (Has_atom to Int_type) ≡ false
no_name_has to m below x from = both_none (to == x) false (other_name to x (omega (arith, below, from))) refl

pub no_name_unknown : (to m : ℕ) → to < m → (x : ℕ) → m ≤ x → in_atom x (Has_atom to Unknown_type) ≡ false
no_name_unknown to m below x from = both_none (to == x) false (other_name to x (omega (arith, below, from))) refl

pub no_name_cell : (to y m : ℕ) → to < m → y < m → (x : ℕ) → m ≤ x → in_atom x (cell_atom to y) ≡ false
no_name_cell to y m below less x from =
    both_none (to == x) (list_any (λ n. n == x) (y ∷ [])) (other_name to x (omega (arith, below, from))) (both_none (y == x) false (other_name y x (omega (arith, less, from))) refl)

pub no_name_same : (to y m : ℕ) → to < m → y < m → (x : ℕ) → m ≤ x → in_atom x (Same_atom to y) ≡ false
no_name_same to y m below less x from = both_none (to == x) (y == x) (other_name to x (omega (arith, below, from))) (other_name y x (omega (arith, less, from)))

-- ---- what is known of the names

-- the permission of each name says what its kind is, and the field of each cell holds a number
pub record Holds (kinds : Kinds) (held : Numbers) (R : List (Atom ℕ)) : Type 0 where
  pub ints : (x : ℕ) → slice_get kinds x ≡ Some Int_kind → In (Has_atom x Int_type) R
  pub cells : (x : ℕ) → slice_get kinds x ≡ Some Cell_kind → In (cell_atom x (held x)) R
  pub fields : (x : ℕ) → slice_get kinds x ≡ Some Cell_kind → slice_get kinds (held x) ≡ Some Int_kind

-- so it is with one permission more
pub holds_more : (kinds : Kinds) (held : Numbers) (R : List (Atom ℕ)) (a : Atom ℕ) → Holds kinds held R → Holds kinds held (R ++ a ∷ [])
holds_more kinds held R a holds = record {
  ints = λ x is. in_front (Has_atom x Int_type) R (a ∷ []) (holds.ints x is);
  cells = λ x is. in_front (cell_atom x (held x)) R (a ∷ []) (holds.cells x is);
  fields = holds.fields;
}

-- a new name of a kind
abbrev pub NewHolds : Kinds → Numbers → List (Atom ℕ) → ℕ → NameKind → Type 0
NewHolds kinds held R to Int_kind = In (Has_atom to Int_type) R
NewHolds kinds held R to Unit_kind = Unit {0}
NewHolds kinds held R to Cell_kind = In (cell_atom to (held to)) R × (slice_get kinds (held to) ≡ Some Int_kind)

-- the kind of the last name
last_kind : (kinds : Kinds) (kind k : NameKind) (x : ℕ) → x ≡ length kinds → slice_get (kinds ++ kind ∷ []) x ≡ Some k → kind ≡ k
last_kind kinds kind k x same is = some_is (slice_get (kinds ++ kind ∷ []) (length kinds)) kind k (end_here kinds kind) (ap (slice_get (kinds ++ kind ∷ [])) (sym same) ∙ is)

-- so it is with one name more
pub holds_name : (kinds : Kinds) (held : Numbers) (R : List (Atom ℕ)) (kind : NameKind) → Holds kinds held R → NewHolds kinds held R (length kinds) kind → Holds (kinds ++ kind ∷ []) held R
holds_name kinds held R kind holds new = record {
  ints = λ x is. elim (cases_eq x (length kinds)) [
    | inl same ↦ subst (λ y. In (Has_atom y Int_type) R) (sym same) (subst (NewHolds kinds held R (length kinds)) (last_kind kinds kind Int_kind x same is) new)
    | inr differ ↦ holds.ints x (sym (end_there kinds kind x differ) ∙ is)
  ];
  cells = λ x is. elim (cases_eq x (length kinds)) [
    | inl same ↦ subst (λ y. In (cell_atom y (held y)) R) (sym same) ((subst (NewHolds kinds held R (length kinds)) (last_kind kinds kind Cell_kind x same is) new).0)
    | inr differ ↦ holds.cells x (sym (end_there kinds kind x differ) ∙ is)
  ];
  fields = λ x is. elim (cases_eq x (length kinds)) [
    | inl same ↦ stays kinds (kind ∷ []) (held x) Int_kind (subst (λ y. slice_get kinds (held y) ≡ Some Int_kind) (sym same) ((subst (NewHolds kinds held R (length kinds)) (last_kind kinds kind Cell_kind x same is) new).1))
    | inr differ ↦ stays kinds (kind ∷ []) (held x) Int_kind (holds.fields x (sym (end_there kinds kind x differ) ∙ is))
  ];
}

-- what the field of a new cell holds says nothing of the cells before it
pub holds_put : (kinds : Kinds) (held : Numbers) (R : List (Atom ℕ)) (y : ℕ) → Holds kinds held R → Holds kinds (put_number held (length kinds) y) R
holds_put kinds held R y holds = record {
  ints = holds.ints;
  cells = λ x is. subst (λ z. In (cell_atom x z) R) (sym (before x Cell_kind is)) (holds.cells x is);
  fields = λ x is. subst (λ z. slice_get kinds z ≡ Some Int_kind) (sym (before x Cell_kind is)) (holds.fields x is);
}
  where
    before : (x : ℕ) (k : NameKind) → slice_get kinds x ≡ Some k → put_number held (length kinds) y x ≡ held x
    before x k is = let within = slice_get_within kinds x k is in number_there held (length kinds) y x (λ same. omega (arith, within, same))

-- a cell is no number
not_cell : (x z y : ℕ) → Has_atom z Int_type ≡ cell_atom x y → ⊥
not_cell x z y is = cc

-- nor another cell
one_cell : (x z y w : ℕ) → cell_atom z w ≡ cell_atom x y → z ≡ x
one_cell x z y w is = cc

-- where the permission for a cell makes room for one with another number in its field
pub holds_written : (kinds : Kinds) (held : Numbers) (R rest : List (Atom ℕ)) (x y : ℕ) → TakesOne (cell_atom x (held x)) R rest → slice_get kinds y ≡ Some Int_kind → Holds kinds held R → Holds kinds (put_number held x y) (rest ++ cell_atom x y ∷ [])
holds_written kinds held R rest x y taken number holds = record {
  ints = λ z is. in_front (Has_atom z Int_type) rest (cell_atom x y ∷ []) (in_rest (cell_atom x (held x)) (Has_atom z Int_type) R rest taken (not_cell x z (held x)) (holds.ints z is));
  cells = λ z is. elim (cases_eq z x) [
    | inl same ↦ subst (λ n. In (cell_atom n (put_number held x y n)) (rest ++ cell_atom x y ∷ [])) (sym same) (subst (λ n. In (cell_atom x n) (rest ++ cell_atom x y ∷ [])) (sym (number_here held x y x refl)) (in_end (cell_atom x y) rest))
    | inr differ ↦ subst (λ n. In (cell_atom z n) (rest ++ cell_atom x y ∷ [])) (sym (number_there held x y z differ))
        (in_front (cell_atom z (held z)) rest (cell_atom x y ∷ []) (in_rest (cell_atom x (held x)) (cell_atom z (held z)) R rest taken (λ same. differ (one_cell x z (held x) (held z) same)) (holds.cells z is)))
  ];
  fields = λ z is. elim (cases_eq z x) [
    | inl same ↦ subst (λ n. slice_get kinds n ≡ Some Int_kind) (sym (number_here held x y z same)) number
    | inr differ ↦ subst (λ n. slice_get kinds n ≡ Some Int_kind) (sym (number_there held x y z differ)) (holds.fields z is)
  ];
}
