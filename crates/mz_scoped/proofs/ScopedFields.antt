-- Fields that are written, each declared one once, in declared order.
use Rattle.std.proofs.Common.{◌≡◌, ℕ, suc, Bool, true, false, not, ◌&&◌, ◌||◌, if◌then◌else◌, List, [], ◌∷◌, map, length, Option, Some, None, is_some, refl, sym, ap, subst}
use Rattle.std.proofs.lemmas.Bool.{not-false, and_parts}
use Rattle.std.specs.Prelude.{unwrap_or}
use Rattle.std.specs.List.{list_all}
use Rattle.std.specs.Str.{bytes_eq}
use Rattle.std.specs.Cmp.Lexicographic.{nat_list_eq_equiv}
use Rattle.mz_tree.specs.declared.types.Place.{Place}
use Rattle.mz_scope.specs.Syntax.{Word}
use Rattle.mz_scope.specs.Names.{Names, find, ConEntry}
use Rattle.mz_scope.specs.Making.{Made}
use Rattle.mz_scope.specs.Types.{is_among, are_apart, names_in, is_each_once, in_order, is_field, are_fields}
use Rattle.mz_tree.specs.Scoped.{Each, Scope, IsBound, AreBound}
use Rattle.mz_scoped.proofs.Goes.{Goes, weakened, given, not_so}
use Rattle.mz_scoped.proofs.Entries.{found_holds}
use Rattle.mz_scoped.proofs.EachMember.{each_none, each_more}

-- ---- the check of what is written

-- a written field is one of the constructor's, or the constructor isn't known
pub field_given : {P : Made → Type 0} (con : Option ConEntry) (field : Word) → Goes P (is_field con field) (λ _ m. P m)
field_given None field = given tt (λ m p. p)
field_given (Some con) field = weakened (λ m p. p) (λ _ m q. q.1) (not_so (not (is_some (find con.fields field.text))) _ field.place)

-- the written fields are each declared one once, where the constructor is known
abbrev pub AreGiven : Option ConEntry → Names ℕ → Type 0
AreGiven None written = Unit {0}
AreGiven (Some con) written = is_each_once (names_in con.fields) (names_in written) ≡ true

-- and so is what was written without a fault
pub fields_given : {P : Made → Type 0} (con : Option ConEntry) (written : Names ℕ) (place : Place) → Goes P (are_fields con written place) (λ _ m. AreGiven con written × P m)
fields_given None written place = given tt (λ m p. (tt, p))
fields_given (Some con) written place =
    weakened (λ m p. p) (λ _ m q. (not-false (is_each_once (names_in con.fields) (names_in written)) q.0, q.1)) (not_so (not (is_each_once (names_in con.fields) (names_in written))) _ place)

-- ---- what is written is found

-- a name that is this one or is among the others is found
found_more : (b c more : Bool) (x : ℕ) (rest : Option ℕ) → b ≡ c → (b || more) ≡ true → (more ≡ true → (y : ℕ) × (rest ≡ Some y)) → (y : ℕ) × ((if c then Some x else rest) ≡ Some y)
found_more b true more x rest same is later = (x, refl)
found_more b false more x rest same is later = later (subst (λ one. (one || more) ≡ true) same is)

-- a name that is among those that are written is found with a value
found_among : (written : Names ℕ) (name : List ℕ) → is_among (names_in written) name ≡ true → (x : ℕ) × (find written name ≡ Some x)
found_among [] name is = cc
found_among (one ∷ rest) name is =
    found_more (bytes_eq name one.0) (bytes_eq one.0 name) (is_among (names_in rest) name) one.1 (find rest name) (nat_list_eq_equiv.symm name one.0) is (found_among rest name)

-- ---- in declared order

-- the value of a field
abbrev value_for : Names ℕ → List ℕ × ℕ → ℕ
value_for written field = unwrap_or (find written field.0) 0

-- it is bound, where it is found
value_bound : (here : Scope) (written : Names ℕ) (name : List ℕ) → Each (λ _ (one : List ℕ × ℕ). IsBound here one.1) written → (x : ℕ) × (find written name ≡ Some x) → IsBound here (unwrap_or (find written name) 0)
value_bound here written name bound found =
    subst (λ o. IsBound here (unwrap_or o 0)) (sym found.1) (found_holds (IsBound here) written name found.0 bound found.1)

-- so are the values of all fields, where each is written
values_bound : (here : Scope) (fields written : Names ℕ) → list_all (is_among (names_in written)) (names_in fields) ≡ true → Each (λ _ (one : List ℕ × ℕ). IsBound here one.1) written → AreBound here (map (value_for written) fields)
values_bound here [] written all bound = each_none (IsBound here)
values_bound here (field ∷ rest) written all bound =
    let parts : _ = and_parts (is_among (names_in written) field.0) (list_all (is_among (names_in written)) (names_in rest)) all in
    each_more (IsBound here) (value_for written field) (map (value_for written) rest)
    (value_bound here written field.0 bound (found_among written field.0 parts.0))
    (values_bound here rest written parts.1 bound)

-- the values of the fields are bound, where those that are written are
pub in_order_bound : (here : Scope) (c : ConEntry) (written : Names ℕ) → is_each_once (names_in c.fields) (names_in written) ≡ true → Each (λ _ (one : List ℕ × ℕ). IsBound here one.1) written → AreBound here (in_order (Some c) written)
in_order_bound here c written once bound =
    values_bound here c.fields written (and_parts (are_apart (names_in written) && list_all (is_among (names_in c.fields)) (names_in written)) _ once).1 bound

-- as many values as fields
counts : (fields written : Names ℕ) → length (map (value_for written) fields) ≡ length fields
counts [] written = refl
counts (field ∷ rest) written = ap suc (counts rest written)

-- there is one for each declared field
pub in_order_count : (c : ConEntry) (written : Names ℕ) → length (in_order (Some c) written) ≡ length c.fields
in_order_count c written = counts c.fields written
