-- Lists with one element changed.
use Rattle.std.proofs.Common.{◌≡◌, ◌≢◌, ℕ, zero, suc, List, [], ◌∷◌, length, Some, None, refl, ap}
use Rattle.std.specs.Prelude.{slice_get, slice_set}

-- an element that is set
pub set_here : {A : Type 0} (xs : List A) (i : ℕ) (a b : A) → slice_get xs i ≡ Some b → slice_get (slice_set xs i a) i ≡ Some a
set_here [] i a b e = absurd (no e)
  where
    no : {A : Type 0} {b : A} → None ≡ Some b → ⊥
    no e = absurd (cc)
set_here (x ∷ xs) zero a b e = refl
set_here (x ∷ xs) (suc i) a b e = set_here xs i a b e

-- the others stay
pub set_other : {A : Type 0} (xs : List A) (i j : ℕ) (a : A) → j ≢ i → slice_get (slice_set xs i a) j ≡ slice_get xs j
set_other [] i j a n = refl
set_other (x ∷ xs) zero zero a n = absurd (n refl)
set_other (x ∷ xs) zero (suc j) a n = refl
set_other (x ∷ xs) (suc i) zero a n = refl
set_other (x ∷ xs) (suc i) (suc j) a n = set_other xs i j a (λ e. n (ap suc e))

-- and the length
pub set_long : {A : Type 0} (xs : List A) (i : ℕ) (a : A) → length (slice_set xs i a) ≡ length xs
set_long [] i a = refl
set_long (x ∷ xs) zero a = refl
set_long (x ∷ xs) (suc i) a = ap suc (set_long xs i a)
