-- What the code reads from the front of a line: texts, digits, and words by their names.
use Rattle.std.proofs.Common.{◌≡◌, ◌==◌, ◌≤◌, ◌<◌, ◌+◌, ◌*◌, ◌-◌, ℕ, Bool, true, false, List, [], ◌∷◌, length, take, drop, get_or, Option, Some, None, refl, sym, ap, ◌∙◌, add-one, drop-cons, arith, ◌&&◌, if◌then◌else◌}
use Rattle.std.specs.List.{starts_with}
use Rattle.std.specs.Str.{bytes_eq}
use Rattle.std.proofs.lemmas.List.{take_rest}
use Rattle.mz_script.specs.Fronts.{behind_text, digits_from}
use Rattle.mz_script.specs.Places.{same_name}

-- ---- the value of digits

-- what was read so far is no more than the whole, since each digit only adds
digits_ge : (n : ℕ) (digits : List ℕ) → n ≤ digits_from n digits
digits_ge n [] = omega arith
digits_ge n (d ∷ digits) = omega (arith, digits_ge (10 * n + (d - 48)) digits)

-- at one more digit the value is at least ten times what was read so far, and the digit
pub digits_drop : (n i : ℕ) (digits : List ℕ) → i < length digits → 10 * n + (get_or digits i 0 - 48) ≤ digits_from n (drop i digits)
digits_drop n i digits h = rw drop-cons_at (omega (arith, digits_ge (10 * n + (get_or digits i 0 - 48)) (drop (i + 1) digits)))
  where
    drop-cons_at : drop i digits ≡ get_or digits i 0 ∷ drop (i + 1) digits
    drop-cons_at = rw (add-one, drop-cons digits i 0)

-- ---- a text at the front

pub front_is : (text bytes : List ℕ) → starts_with (λ a b. a == b) bytes text ≡ true → behind_text text bytes ≡ Some (drop (length text) bytes)
front_is [] bytes e = refl
front_is (c ∷ text) [] e = cc
front_is (c ∷ text) (b ∷ bytes) e = by_test (c == b) refl (front_is text bytes) e
  where
    by_test : (t : Bool) → (c == b) ≡ t → (starts_with (λ x y. x == y) bytes text ≡ true → behind_text text bytes ≡ Some (drop (length text) bytes)) → ((c == b) && starts_with (λ x y. x == y) bytes text) ≡ true → behind_text (c ∷ text) (b ∷ bytes) ≡ Some (drop (length text) bytes)
    by_test true same more h = ap (λ t. if t then behind_text text bytes else None) same ∙ more (sym (ap (λ t. t && starts_with (λ x y. x == y) bytes text) same) ∙ h)
    by_test false other more h = let no : false ≡ true = sym (ap (λ t. t && starts_with (λ x y. x == y) bytes text) other) ∙ h in cc

pub front_no : (text bytes : List ℕ) → starts_with (λ a b. a == b) bytes text ≡ false → behind_text text bytes ≡ None
front_no [] bytes e = cc
front_no (c ∷ text) [] e = refl
front_no (c ∷ text) (b ∷ bytes) e = by_test (c == b) refl (front_no text bytes) e
  where
    by_test : (t : Bool) → (c == b) ≡ t → (starts_with (λ x y. x == y) bytes text ≡ false → behind_text text bytes ≡ None) → ((c == b) && starts_with (λ x y. x == y) bytes text) ≡ false → behind_text (c ∷ text) (b ∷ bytes) ≡ None
    by_test true same more h = ap (λ t. if t then behind_text text bytes else None) same ∙ more (sym (ap (λ t. t && starts_with (λ x y. x == y) bytes text) same) ∙ h)
    by_test false other more h = ap (λ t. if t then behind_text text bytes else None) other

-- ---- names, byte by byte

pub names_same : (name other : List ℕ) → bytes_eq name other ≡ same_name name other
names_same [] [] = refl
names_same [] (c ∷ other) = refl
names_same (b ∷ name) [] = refl
names_same (b ∷ name) (c ∷ other) = by_test (b == c) refl (names_same name other)
  where
    by_test : (t : Bool) → (b == c) ≡ t → bytes_eq name other ≡ same_name name other → bytes_eq (b ∷ name) (c ∷ other) ≡ same_name (b ∷ name) (c ∷ other)
    by_test true same more = rw same more
    by_test false other_byte more = rw other_byte refl
