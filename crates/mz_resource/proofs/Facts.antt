-- Small facts of lists, numbers and options.
use Rattle.std.proofs.Common.{◌≡◌, ℕ, zero, suc, ◌<◌, List, [], ◌∷◌, length, Option, Some, None, slice_get, refl, arith}

pub some_inj : {A : Type 0} {a b : A} → Some a ≡ Some b → a ≡ b
some_inj e = cc

pub some_is : {A : Type 0} {o : Option A} {a b : A} → o ≡ Some a → o ≡ Some b → a ≡ b
some_is e f = cc

pub none_some : {A : Type 0} {o : Option A} {a : A} → o ≡ None → o ≡ Some a → ⊥
none_some e f = absurd (cc)

-- nothing stands in an empty list
pub no_get : {A : Type 0} {a : A} (k : ℕ) → slice_get [] k ≡ Some a → ⊥
no_get k e = none_some refl e

-- something stands at each place of a list
pub member_at : {A : Type 0} (xs : List A) (n : ℕ) → n < length xs → (x : A) × (slice_get xs n ≡ Some x)
member_at [] n l = absurd (omega arith)
member_at (x ∷ xs) zero l = (x, refl)
member_at (x ∷ xs) (suc n) l = member_at xs n (omega arith)

pub zero_by : (n : ℕ) → (0 < n → ⊥) → n ≡ 0
zero_by n h = omega arith
