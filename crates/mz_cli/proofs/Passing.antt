-- Whether some element passes a test, by going along the list; and the one field of a new block.
use Rattle.std.proofs.Common.{◌≡◌, ℕ, ◌+◌, ◌<◌, ◌≤◌, Bool, true, false, ◌||◌, List, [], ◌∷◌, map, length, get_or, drop, refl, sym, ap, ◌∙◌, arith}
use Rattle.std.specs.List.{list_any}
use Rattle.std.proofs.lemmas.List.{drop_more}
use Rattle.std.proofs.Math.ListN.{drop_of_length-le}
use Rattle.mz_token.specs.declared.token.Token.{Token}
use Rattle.mz_parse.specs.declared.bodies.BlockItem.TheBlock as rows
use Rattle.mz_parse.specs.declared.bodies.FieldValue.{FieldValue}
use Rattle.mz_parse.specs.declared.bodies.Primary.{Construct, Row_of-FieldValue, end_of-FieldValue, more_of-FieldValue, items-the_row-FieldValue, items_hidden-the_row-FieldValue-6}
use Rattle.mz_cli.specs.FirstForm.{is_value, is_one_value, is_new}

drop_here : {A : Type 0} (l : List A) (i : ℕ) (a : A) → i < length l → a ≡ get_or l i a → drop i l ≡ a ∷ drop (i + 1) l
drop_here l i a within is = drop_more l i a within ∙ ap (λ x. x ∷ drop (i + 1) l) (sym is)

module _ {A B : Type 0} (test : B → Bool) (view : A → B) (xs : List A) (i : ℕ) (same : list_any test (map view xs) ≡ list_any test (map view (drop i xs))) where
  from_here : (x : A) → i < length xs → x ≡ get_or xs i x → list_any test (map view xs) ≡ (test (view x) || list_any test (map view (drop (i + 1) xs)))
  from_here x within is = same ∙ ap (λ l. list_any test (map view l)) (drop_here xs i x within is)

  -- the next one passes
  pub one_passes : (x : A) → i < length xs → x ≡ get_or xs i x → test (view x) ≡ true → list_any test (map view xs) ≡ true
  one_passes x within is passes = from_here x within is ∙ ap (λ b. b || list_any test (map view (drop (i + 1) xs))) passes

  -- the next one fails
  pub next_fails : (x : A) → i < length xs → x ≡ get_or xs i x → test (view x) ≡ false → list_any test (map view xs) ≡ list_any test (map view (drop (i + 1) xs))
  next_fails x within is fails = from_here x within is ∙ ap (λ b. b || list_any test (map view (drop (i + 1) xs))) fails

  -- none is left
  pub none_passes : length xs ≤ i → list_any test (map view xs) ≡ false
  none_passes past = same ∙ ap (λ l. list_any test (map view l)) (drop_of_length-le xs past)

-- ---- the one field of a new block

abbrev pub one_of : List FieldValue → Bool
one_of (v ∷ []) = is_value v.value
one_of _ = false

row_is : (m : _) (row : Row_of-FieldValue m) → is_one_value row ≡ one_of (items-the_row-FieldValue m row)
row_is _ end_of-FieldValue = refl
row_is _ (more_of-FieldValue field value end_of-FieldValue) = refl
row_is _ (more_of-FieldValue field value (more_of-FieldValue other another rest)) = refl

pub new_is : (con : Token) (fields : List FieldValue) → is_new (Construct con fields) ≡ one_of fields
new_is con fields = row_is _ (rows.hidden-the_row-FieldValue-6 fields) ∙ ap one_of (items_hidden-the_row-FieldValue-6 fields)

pub one_here : (fields : List FieldValue) (v : FieldValue) → 1 ≤ length fields → length fields < 2 → v ≡ get_or fields 0 v → one_of fields ≡ is_value v.value
one_here [] v least most is = absurd (omega (arith, least))
one_here (x ∷ []) v least most is = ap (λ (y : FieldValue). is_value y.value) (sym is)
one_here (x ∷ y ∷ rest) v least most is = absurd (omega (arith, most))

pub none_here : (fields : List FieldValue) → length fields < 1 → one_of fields ≡ false
none_here [] less = refl
none_here (x ∷ rest) less = absurd (omega (arith, less))

pub more_here : (fields : List FieldValue) → 2 ≤ length fields → one_of fields ≡ false
more_here [] least = refl
more_here (x ∷ []) least = absurd (omega (arith, least))
more_here (x ∷ y ∷ rest) least = refl
