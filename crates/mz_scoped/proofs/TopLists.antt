-- Lists gone over from their front: what holds of each member, what stands at a place of a list that was mapped, and members
-- and numbers in a row.
use Rattle.std.proofs.Common.{◌≡◌, ◌⊎◌, inl, inr, ℕ, zero, suc, ◌+◌, ◌<◌, ◌≤◌, ◌==◌, Bool, true, false, cond, if◌then◌else◌, List, [], ◌∷◌, ◌++◌, map, length, Option, Some, slice_get, count_by, refl, sym, ap, ◌∙◌, subst, arith, eq-eqb, ne_eqb}
use Rattle.std.specs.List.{range_with_len}
use Rattle.std.specs.Str.{bytes_eq}
use Rattle.std.proofs.lemmas.Option.{none-some, same_Some}
use Rattle.std.proofs.lemmas.List.Sums.{sum_by-cons}
use Rattle.mz_scope.specs.Names.{Names, find}
use Rattle.mz_scoped.proofs.Proper.{AllOf}

-- ---- what holds of each member

-- of two lists together
pub all_together : {A : Type 0} (P : A → Type 0) (front rest : List A) → AllOf P front → AllOf P rest → AllOf P (front ++ rest)
all_together P [] rest all more = more
all_together P (a ∷ front) rest (one, others) more = (one, all_together P front rest others more)

-- what follows from it
pub all_weaker : {A : Type 0} (P Q : A → Type 0) → ((a : A) → P a → Q a) → (l : List A) → AllOf P l → AllOf Q l
all_weaker P Q weaker [] all = tt
all_weaker P Q weaker (a ∷ l) (one, others) = (weaker a one, all_weaker P Q weaker l others)

-- of what stands at a place
pub all_at : {A : Type 0} (P : A → Type 0) (l : List A) (k : ℕ) (a : A) → AllOf P l → slice_get l k ≡ Some a → P a
all_at P [] k a all is = absurd (none-some a is)
all_at P (x ∷ l) zero a (one, others) is = subst P (same_Some x a is) one
all_at P (x ∷ l) (suc k) a (one, others) is = all_at P l k a others is

-- ---- names that are found

-- a name is the first one, or comes later
found_first : {A : Type 0} (P : A → Type 0) (b : Bool) (x a : A) (o : Option A) → P x → (o ≡ Some a → P a) → (if b then Some x else o) ≡ Some a → P a
found_first P true x a o one later is = subst P (same_Some x a is) one
found_first P false x a o one later is = later is

-- what each name stands for, a name that is found stands for, too
pub all_found : {A : Type 0} (P : A → Type 0) (names : Names A) (name : List ℕ) (a : A) → AllOf (λ (one : List ℕ × A). P one.1) names → find names name ≡ Some a → P a
all_found P [] name a all is = absurd (none-some a is)
all_found P (x ∷ names) name a (one, others) is = found_first P (bytes_eq x.0 name) x.1 a (find names name) one (all_found P names name a others) is

-- a name that is found stands at a place
pub record FoundAt {A : Type 0} (names : Names A) (a : A) : Type 0 where
  pub place : ℕ
  pub one : List ℕ × A
  pub there : slice_get names place ≡ Some one
  pub value : one.1 ≡ a

-- the first one, or one later
found_here : {A : Type 0} (x : List ℕ × A) (names : Names A) (a : A) (b : Bool) (o : Option A) → (o ≡ Some a → FoundAt names a) → (if b then Some x.1 else o) ≡ Some a → FoundAt (x ∷ names) a
found_here x names a true o later is = record { place = zero; one = x; there = refl; value = same_Some x.1 a is }
found_here x names a false o later is = let at = later is in record { place = suc at.place; one = at.one; there = at.there; value = at.value }

-- so does each name that is found
pub found_at : {A : Type 0} (names : Names A) (name : List ℕ) (a : A) → find names name ≡ Some a → FoundAt names a
found_at [] name a is = absurd (none-some a is)
found_at (x ∷ names) name a is = found_here x names a (bytes_eq x.0 name) (find names name) (found_at names name a) is

-- ---- places

-- what stands at a place of a mapped list comes from what stands there in the list
pub record Comes_from {A B : Type 0} (f : A → B) (l : List A) (k : ℕ) (b : B) : Type 0 where
  pub member : A
  pub there : slice_get l k ≡ Some member
  pub same : f member ≡ b

-- so it is at each place
pub comes_from : {A B : Type 0} (f : A → B) (l : List A) (k : ℕ) (b : B) → slice_get (map f l) k ≡ Some b → Comes_from f l k b
comes_from f [] k b is = absurd (none-some b is)
comes_from f (x ∷ l) zero b is = record { member = x; there = refl; same = same_Some (f x) b is }
comes_from f (x ∷ l) (suc k) b is = let from = comes_from f l k b is in record { member = from.member; there = from.there; same = from.same }

-- at a place within a list something stands
pub record Stands {A : Type 0} (l : List A) (k : ℕ) : Type 0 where
  pub member : A
  pub there : slice_get l k ≡ Some member

-- so it is at each of these places
pub stands : {A : Type 0} (l : List A) (k : ℕ) → k < length l → Stands l k
stands [] k within = absurd (omega arith)
stands (x ∷ l) zero within = record { member = x; there = refl }
stands (x ∷ l) (suc k) within = let at = stands l k (omega (arith, within)) in record { member = at.member; there = at.there }

-- ---- members that are numbered in a row, from k on

abbrev pub InOrder : {A : Type 0} → (A → ℕ) → ℕ → List A → Type 0
InOrder number k [] = Unit {0}
InOrder number k (a ∷ rest) = (number a ≡ k) × InOrder number (k + 1) rest

-- of two lists together
pub order_together : {A : Type 0} (number : A → ℕ) (k : ℕ) (front rest : List A) → InOrder number k front → InOrder number (k + length front) rest → InOrder number k (front ++ rest)
order_together number k [] rest order more = subst (λ n. InOrder number n rest) (nothing_more k) more
  where
    nothing_more : (k : ℕ) → k + 0 ≡ k
    nothing_more k = omega arith
order_together number k (a ∷ front) rest (one, others) more = (one, order_together number (k + 1) front rest others (subst (λ n. InOrder number n rest) (one_more k (length front)) more))
  where
    one_more : (k n : ℕ) → k + suc n ≡ k + 1 + n
    one_more k n = omega arith

-- a place tells the number
pub order_at : {A : Type 0} (number : A → ℕ) (k : ℕ) (l : List A) (j : ℕ) (a : A) → InOrder number k l → slice_get l j ≡ Some a → number a ≡ k + j
order_at number k [] j a order is = absurd (none-some a is)
order_at number k (x ∷ l) zero a (one, others) is = ap number (sym (same_Some x a is)) ∙ one ∙ nothing_more k
  where
    nothing_more : (k : ℕ) → k ≡ k + 0
    nothing_more k = omega arith
order_at number k (x ∷ l) (suc j) a (one, others) is = order_at number (k + 1) l j a others is ∙ one_more k j
  where
    one_more : (k n : ℕ) → k + 1 + n ≡ k + suc n
    one_more k n = omega arith

-- ---- numbers in a row

-- what stands at a place of a row
pub range_at : (a n i c : ℕ) → slice_get (range_with_len a n) i ≡ Some c → (c ≡ a + i) × (i < n)
range_at a zero i c is = absurd (none-some c is)
range_at a (suc n) zero c is = let same = same_Some a c is in (omega (arith, same), omega arith)
range_at a (suc n) (suc i) c is = let at = range_at (a + 1) n i c is in let same = at.0 in let below = at.1 in (omega (arith, same), omega (arith, below))

-- how often a number is in a list
abbrev count_of : ℕ → List ℕ → ℕ
count_of con l = count_by (λ k. k == con) l

-- the first number of a row is counted, or not
count_step : (con a n : ℕ) (b : Bool) → (a == con) ≡ b → count_of con (range_with_len a (suc n)) ≡ cond b 1 0 + count_of con (range_with_len (a + 1) n)
count_step con a n b is = sum_by-cons (λ k. cond (k == con) 1 0) a (range_with_len (a + 1) n) ∙ ap (λ t. cond t 1 0 + count_of con (range_with_len (a + 1) n)) is

-- a number that is below a row isn't in it
pub none_in_row : (con a n : ℕ) → con < a → count_of con (range_with_len a n) ≡ 0
none_in_row con a zero below = refl
none_in_row con a (suc n) below = count_step con a n false (ne_eqb a con (λ same. omega (arith, same, below))) ∙ ap (λ c. 0 + c) (none_in_row con (a + 1) n (omega (arith, below)))

-- where a number is at most another, it is that or below
from_or_after : (a con : ℕ) → a ≤ con → (a ≡ con) ⊎ (a + 1 ≤ con)
from_or_after zero zero from = inl refl
from_or_after zero (suc con) from = inr (omega arith)
from_or_after (suc a) zero from = absurd (omega (arith, from))
from_or_after (suc a) (suc con) from = next (from_or_after a con (omega (arith, from)))
  where
    next : (a ≡ con) ⊎ (a + 1 ≤ con) → (suc a ≡ suc con) ⊎ (suc a + 1 ≤ suc con)
    next (inl same) = inl (ap suc same)
    next (inr after) = inr (omega (arith, after))

-- a number within a row is once in it
pub once_in_row : (con a n : ℕ) → a ≤ con → con < a + n → count_of con (range_with_len a n) ≡ 1
once_in_row con a zero from below = absurd (omega (arith, from, below))
once_in_row con a (suc n) from below = by (from_or_after a con from) (once_in_row con (a + 1) n)
  where
    by : (a ≡ con) ⊎ (a + 1 ≤ con) → (a + 1 ≤ con → con < a + 1 + n → count_of con (range_with_len (a + 1) n) ≡ 1) → count_of con (range_with_len a (suc n)) ≡ 1
    by (inl same) later = count_step con a n true (eq-eqb a con same) ∙ ap (λ c. 1 + c) (none_in_row con (a + 1) n (omega (arith, same)))
    by (inr after) later = count_step con a n false (ne_eqb a con (λ same. omega (arith, same, after))) ∙ ap (λ c. 0 + c) (later after (omega (arith, below)))
