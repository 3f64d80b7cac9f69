-- Lists of fields: whether a name is among theirs, and what stands at a place.
use Rattle.std.proofs.Common.{◌≡◌, ℕ, zero, suc, ◌<◌, List, [], ◌∷◌, ◌++◌, length, get_or, Bool, true, false, not, ◌&&◌, ◌||◌, if◌then◌else◌, Option, Some, is_some, slice_get, refl, sym, ap, ◌∙◌, arith}
use Rattle.std.specs.Str.{bytes_eq}
use Rattle.std.specs.Cmp.Lexicographic.{nat_list_eq_equiv}
use Rattle.mz_names.specs.Names.{Names, find}
use Rattle.mz_names.specs.Fields.{names_in, numbers_in, is_among, are_apart}
use Rattle.mz_names.specs.NumberedFields.{fields_in}
use Rattle.mz_names.specs.declared.field_list.NumberedField.{NumberedField}

-- ---- whether a name stands twice

swap : (a b : List ℕ) → bytes_eq a b ≡ bytes_eq b a
swap a b = nat_list_eq_equiv.symm a b

found_or : (b : Bool) (n : ℕ) (o : Option ℕ) (r : Bool) → is_some o ≡ r → is_some (if b then Some n else o) ≡ (b || r)
found_or true n o r h = refl
found_or false n o r h = h

-- a name is found where it is among the names, by going along them
pub is_found : (names : Names ℕ) (text : List ℕ) → is_some (find names text) ≡ is_among (names_in names) text
is_found [] text = refl
is_found (one ∷ rest) text = found_or (bytes_eq one.0 text) one.1 (find rest text) _ (is_found rest text) ∙ ap (λ (b : Bool). b || is_among (names_in rest) text) (swap one.0 text)

or_last : (b : Bool) → (b || false) ≡ b
or_last true = refl
or_last false = refl

or_through : (a b c : Bool) → (a || (b || c)) ≡ ((a || b) || c)
or_through true b c = refl
or_through false b c = refl

among_more : (names : Names ℕ) (text : List ℕ) (number : ℕ) (other : List ℕ) → is_among (names_in (names ++ (text, number) ∷ [])) other ≡ (is_among (names_in names) other || bytes_eq other text)
among_more [] text number other = or_last (bytes_eq other text)
among_more (one ∷ rest) text number other =
    ap (λ (b : Bool). bytes_eq other one.0 || b) (among_more rest text number other) ∙ or_through (bytes_eq other one.0) (is_among (names_in rest) other) (bytes_eq other text)

neither : (p q r s : Bool) → (not (p || q) && (r && not s)) ≡ ((not p && r) && not (q || s))
neither true q r s = refl
neither false true true s = refl
neither false true false s = refl
neither false false r s = refl

-- with one more name none stands twice where none did and this is a new one
pub apart_more : (names : Names ℕ) (text : List ℕ) (number : ℕ) → are_apart (names_in (names ++ (text, number) ∷ [])) ≡ (are_apart (names_in names) && not (is_some (find names text)))
apart_more [] text number = refl
apart_more (one ∷ rest) text number =
    ap (λ (b : Bool). not b && are_apart (names_in (rest ++ (text, number) ∷ []))) (among_more rest text number one.0)
    ∙ ap (λ (b : Bool). not (is_among (names_in rest) one.0 || bytes_eq one.0 text) && b) (apart_more rest text number)
    ∙ neither (is_among (names_in rest) one.0) (bytes_eq one.0 text) (are_apart (names_in rest)) (is_some (find rest text))
    ∙ ap (λ (b : Bool). (not (is_among (names_in rest) one.0) && are_apart (names_in rest)) && not b) (sym (found_or (bytes_eq one.0 text) one.1 (find rest text) (is_some (find rest text)) refl))

-- ---- what stands at a place

-- the name, by going along the list
pub text_there : (fields : List NumberedField) (i : ℕ) (d : NumberedField) → i < length (fields_in fields) → slice_get (names_in (fields_in fields)) i ≡ Some (get_or fields i d).text
text_there [] i d h = absurd (omega arith)
text_there (f ∷ rest) zero d h = refl
text_there (f ∷ rest) (suc i) d h = text_there rest i d (omega arith)

-- the number
pub number_there : (fields : List NumberedField) (i : ℕ) (d : NumberedField) → i < length (fields_in fields) → slice_get (numbers_in (fields_in fields)) i ≡ Some (get_or fields i d).number
number_there [] i d h = absurd (omega arith)
number_there (f ∷ rest) zero d h = refl
number_there (f ∷ rest) (suc i) d h = number_there rest i d (omega arith)

-- one field more
pub one_more : (fields : List NumberedField) (f : NumberedField) → fields_in (fields ++ f ∷ []) ≡ fields_in fields ++ (f.text, f.number) ∷ []
one_more [] f = refl
one_more (g ∷ rest) f = ap (λ (l : Names ℕ). (g.text, g.number) ∷ l) (one_more rest f)
