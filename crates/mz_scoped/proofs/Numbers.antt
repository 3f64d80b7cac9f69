-- Lists whose members pass a test or have a property, and how often a number stands in a list.
use Rattle.std.proofs.Common.{◌≡◌, ℕ, zero, suc, ◌+◌, ◌≤◌, ◌==◌, Bool, true, false, cond, ◌||◌, List, [], ◌∷◌, map, filter, count_by, Some, slice_get, refl, ap, ◌∙◌, subst, arith}
use Rattle.std.specs.List.{list_any}
use Rattle.std.proofs.lemmas.Bool.{both_ways, or_parts}
use Rattle.std.proofs.lemmas.Bool.Decides.{Decides-eqb}
use Rattle.std.proofs.lemmas.List.Sums.{sum_by-cons}
use Rattle.mz_scope.specs.Names.{Names}
use Rattle.mz_scope.specs.Bodies.{is_number_among}
use Rattle.mz_scoped.proofs.Proper.{AllOf}

-- ---- members

-- where no member passes a test, this one doesn't
pub none_passes : {A : Type 0} (test : A → Bool) (list : List A) (k : ℕ) (a : A) → list_any test list ≡ false → slice_get list k ≡ Some a → test a ≡ false
none_passes test [] k a none at = cc
none_passes test (x ∷ rest) zero a none at =
    let same : x ≡ a = cc in
    subst (λ y. test y ≡ false) same (or_parts (test x) (list_any test rest) none).0
none_passes test (x ∷ rest) (suc k) a none at = none_passes test rest k a (or_parts (test x) (list_any test rest) none).1 at

module _ {A : Type 0} (P : A → Type 0) where
  -- what holds of what each name stands for holds of all these
  pub all_values : (names : Names A) → ((k : ℕ) (one : List ℕ × A) → slice_get names k ≡ Some one → P one.1) → AllOf P (map (λ (one : List ℕ × A). one.1) names)
  all_values [] all = tt
  all_values (one ∷ rest) all = (all zero one refl, all_values rest (λ k a at. all (suc k) a at))

  kept_if : (b : Bool) (a : A) (rest : List A) → P a → AllOf P rest → AllOf P (cond b (a ∷ rest) rest)
  kept_if true a rest here more = (here, more)
  kept_if false a rest here more = more

  -- what holds of all members holds of those that pass a test
  pub all_kept : (test : A → Bool) (list : List A) → AllOf P list → AllOf P (filter test list)
  all_kept test [] all = tt
  all_kept test (a ∷ rest) all = kept_if (test a) a (filter test rest) all.0 (all_kept test rest all.1)

-- ---- numbers

-- how often a number stands in a list
abbrev pub times : ℕ → List ℕ → ℕ
times n [] = 0
times n (k ∷ rest) = cond (k == n) 1 0 + times n rest

pub times_is : (n : ℕ) (list : List ℕ) → count_by (λ k. k == n) list ≡ times n list
times_is n [] = refl
times_is n (k ∷ rest) = sum_by-cons (λ m. cond (m == n) 1 0) k rest ∙ ap (λ t. cond (k == n) 1 0 + t) (times_is n rest)

here_or_later : (b : Bool) (later : Bool) (t : ℕ) → (b || later) ≡ true → (later ≡ true → 1 ≤ t) → 1 ≤ cond b 1 0 + t
here_or_later true later t is more = omega arith
here_or_later false later t is more = omega (arith, more is)

-- a number that is among these stands there
pub some_time : (n : ℕ) (list : List ℕ) → is_number_among list n ≡ true → 1 ≤ times n list
some_time n [] is = cc
some_time n (k ∷ rest) is = here_or_later (k == n) (is_number_among rest n) (times n rest) is (some_time n rest)

-- a number stands at most once in a list, and not at all if it is among the earlier ones
abbrev pub IsOnce : ℕ → List ℕ → List ℕ → Type 0
IsOnce n earlier list = (is_number_among earlier n ≡ true → times n list ≡ 0) × (times n list ≤ 1)

once_if : (b among : Bool) (t : ℕ) → (b ≡ true → among ≡ false) → ((b || among) ≡ true → t ≡ 0) → t ≤ 1 → (among ≡ true → cond b 1 0 + t ≡ 0) × (cond b 1 0 + t ≤ 1)
once_if true among t apart none few = (λ is. absurd (both_ways among (apart refl) is), omega (arith, none refl))
once_if false among t apart none few = (λ is. omega (arith, none is), omega (arith, few))

-- one that isn't among the earlier ones, before others
pub once_more : (n k : ℕ) (earlier list : List ℕ) → is_number_among earlier k ≡ false → IsOnce n (k ∷ earlier) list → IsOnce n earlier (k ∷ list)
once_more n k earlier list apart rest =
    once_if (k == n) (is_number_among earlier n) (times n list) (λ same. subst (λ m. is_number_among earlier m ≡ false) ((Decides-eqb k n).0 same) apart) rest.0 rest.1

-- a number that is among these and stands there at most once stands there once
pub just_once : (n : ℕ) (list : List ℕ) → is_number_among list n ≡ true → times n list ≤ 1 → count_by (λ k. k == n) list ≡ 1
just_once n list is few = times_is n list ∙ omega (arith, some_time n list is, few)
