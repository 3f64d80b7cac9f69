-- The last one of a list.
use Rattle.std.proofs.Common.{◌≡◌, suc, ◌-◌, List, [], ◌∷◌, ◌++◌, length, Some, None, refl, ap, ◌∙◌, slice_get, arith}

-- one more before it
grow : {A : Type 0} (y : A) (xs : List A) (x : A) → (before : List A) × (xs ≡ before ++ x ∷ []) → (before : List A) × (y ∷ xs ≡ before ++ x ∷ [])
grow y xs x more = (y ∷ more.0, ap (λ l. y ∷ l) more.1)

-- a list with a last one is what stands before it and that one
pub front_of : {A : Type 0} (xs : List A) (x : A) → Some x ≡ slice_get xs (length xs - 1) → (before : List A) × (xs ≡ before ++ x ∷ [])
front_of [] x e = absurd (cc)
front_of (y ∷ []) x e = ([], cc)
front_of (y ∷ z ∷ xs) x e =
    let at : length (y ∷ z ∷ xs) - 1 ≡ suc (length (z ∷ xs) - 1) = omega arith in
    grow y (z ∷ xs) x (front_of (z ∷ xs) x (e ∙ ap (slice_get (y ∷ z ∷ xs)) at))

-- a list with no last one is empty
pub none_of : {A : Type 0} (xs : List A) → None ≡ slice_get xs (length xs - 1) → xs ≡ []
none_of [] e = refl
none_of (y ∷ []) e = absurd (cc)
none_of (y ∷ z ∷ xs) e =
    let at : length (y ∷ z ∷ xs) - 1 ≡ suc (length (z ∷ xs) - 1) = omega arith in
    absurd (let f = none_of (z ∷ xs) (e ∙ ap (slice_get (y ∷ z ∷ xs)) at) in cc)
