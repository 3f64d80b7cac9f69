-- What holds of each member of a list with its number, along the list, where the first has a number of its own.
use Rattle.std.proofs.Common.{◌≡◌, ℕ, zero, suc, ◌+◌, ◌≤◌, false, List, [], ◌∷◌, ◌++◌, map, length, Some, None, refl, subst, arith}
use Rattle.std.specs.Prelude.{◌==◌, slice_get}
use Rattle.std.proofs.lemmas.Bool.{eqb-false}
use Rattle.mz_tree.specs.Scoped.{Each}
use Rattle.mz_scoped.proofs.Proper.{AllOf}

-- the first has the number n
abbrev pub EachFrom : {A : Type 0} → (ℕ → A → Type 0) → ℕ → List A → Type 0
EachFrom P n [] = Unit {0}
EachFrom P n (a ∷ rest) = P n a × EachFrom P (n + 1) rest

-- what holds of the member at a place
pub each_from : {A : Type 0} (P : ℕ → A → Type 0) (n : ℕ) (all : List A) → EachFrom P n all → (j : ℕ) (a : A) → slice_get all j ≡ Some a → P (n + j) a
each_from P n [] each j a at = cc
each_from P n (x ∷ rest) each zero a at =
    let same : x ≡ a = cc in
    let here : n ≡ n + 0 = omega arith in
    subst (λ k. P k a) here (subst (P n) same each.0)
each_from P n (x ∷ rest) each (suc j) a at =
    let next : n + 1 + j ≡ n + suc j = omega arith in
    subst (λ k. P k a) next (each_from P (n + 1) rest each.1 j a at)

-- and where the first has the number 0
pub each_at : {A : Type 0} (P : ℕ → A → Type 0) (all : List A) → EachFrom P 0 all → Each P all
each_at P all each j a at =
    let here : 0 + j ≡ j = omega arith in
    subst (λ k. P k a) here (each_from P 0 all each j a at)

-- what holds at each place
pub from_places : {A : Type 0} (P : ℕ → A → Type 0) (n : ℕ) (all : List A) → ((j : ℕ) (a : A) → slice_get all j ≡ Some a → P (n + j) a) → EachFrom P n all
from_places P n [] each = tt
from_places P n (x ∷ rest) each =
    let here : n + 0 ≡ n = omega arith in (
      subst (λ k. P k x) here (each zero x refl),
      from_places P (n + 1) rest (λ j a at.
          let next : n + suc j ≡ n + 1 + j = omega arith in
          subst (λ k. P k a) next (each (suc j) a at)),
    )

-- and where the first has the number 0
pub numbered_each : {A : Type 0} (P : ℕ → A → Type 0) (all : List A) → Each P all → EachFrom P 0 all
numbered_each P all each = from_places P 0 all (λ j a at.
    let here : j ≡ 0 + j = omega arith in
    subst (λ k. P k a) here (each j a at))

-- what follows of each
pub each_then : {A : Type 0} (P Q : ℕ → A → Type 0) → ((k : ℕ) (a : A) → P k a → Q k a) → (n : ℕ) (all : List A) → EachFrom P n all → EachFrom Q n all
each_then P Q follows n [] each = tt
each_then P Q follows n (a ∷ rest) each = (follows n a each.0, each_then P Q follows (n + 1) rest each.1)

-- of the members of two lists
pub each_append : {A : Type 0} (P : ℕ → A → Type 0) (n : ℕ) (some more : List A) → EachFrom P n some → EachFrom P (n + length some) more → EachFrom P n (some ++ more)
each_append P n [] more first later =
    let here : n + 0 ≡ n = omega arith in
    subst (λ k. EachFrom P k more) here later
each_append P n (a ∷ some) more first later =
    let next : n + suc (length some) ≡ n + 1 + length some = omega arith in
    (first.0, each_append P (n + 1) some more first.1 (subst (λ k. EachFrom P k more) next later))

-- no member has the number that is too much
pub few_from : {A : Type 0} (P : ℕ → A → Type 0) (most : ℕ) → ((k : ℕ) (a : A) → P k a → (k == most) ≡ false) → (n : ℕ) (all : List A) → EachFrom P n all → n ≤ most → n + length all ≤ most
few_from P most other n [] each less = omega (arith, less)
few_from P most other n (a ∷ rest) each less =
    let not_last : n ≡ most → ⊥ = eqb-false n most (other n a each.0) in
    let before : n + 1 ≤ most = omega (arith, less, not_last) in
    let later : n + 1 + length rest ≤ most = few_from P most other (n + 1) rest each.1 before in
    omega (arith, later)

-- and where the first has the number 0
pub few_members : {A : Type 0} (P : ℕ → A → Type 0) (most : ℕ) → ((k : ℕ) (a : A) → P k a → (k == most) ≡ false) → (all : List A) → EachFrom P 0 all → length all ≤ most
few_members P most other all each =
    let start : 0 ≤ most = omega arith in
    let whole : 0 + length all ≤ most = few_from P most other 0 all each start in
    omega (arith, whole)

-- nothing stands at this place
pub few_places : {A : Type 0} (all : List A) (most : ℕ) → slice_get all most ≡ None → length all ≤ most
few_places [] most none = omega arith
few_places (a ∷ rest) zero none = cc
few_places (a ∷ rest) (suc most) none =
    let later : length rest ≤ most = few_places rest most none in
    omega (arith, later)

-- ---- without the numbers

-- each of them, without its number
pub from_all : {A : Type 0} (P : ℕ → A → Type 0) (Q : A → Type 0) → ((k : ℕ) (a : A) → P k a → Q a) → (n : ℕ) (all : List A) → EachFrom P n all → AllOf Q all
from_all P Q follows n [] each = tt
from_all P Q follows n (a ∷ rest) each = (follows n a each.0, from_all P Q follows (n + 1) rest each.1)

-- ---- lists that look alike

-- what stands at a place of the one, and at that place of the other
pub same_place : {A B C : Type 0} (f : A → C) (h : B → C) (some : List A) (more : List B) → map f some ≡ map h more → (k : ℕ) (a : A) → slice_get some k ≡ Some a → (b : B) × (slice_get more k ≡ Some b) × (f a ≡ h b)
same_place f h [] more alike k a at = cc
same_place f h (x ∷ some) [] alike k a at = cc
same_place f h (x ∷ some) (y ∷ more) alike zero a at =
    let same : x ≡ a = cc in
    let first : f x ≡ h y = cc in
    (y, refl, subst (λ z. f z ≡ h y) same first)
same_place f h (x ∷ some) (y ∷ more) alike (suc k) a at =
    let later : map f some ≡ map h more = cc in
    same_place f h some more later k a at

-- members that are put through a function
pub each_mapped : {A B : Type 0} (P : ℕ → B → Type 0) (f : A → B) (n : ℕ) (all : List A) → EachFrom (λ k a. P k (f a)) n all → EachFrom P n (map f all)
each_mapped P f n [] each = tt
each_mapped P f n (a ∷ rest) each = (each.0, each_mapped P f (n + 1) rest each.1)

-- with numbers that are more by so many
pub each_shifted : {A : Type 0} (P : ℕ → A → Type 0) (more n : ℕ) (all : List A) → EachFrom (λ k a. P (more + k) a) n all → EachFrom P (more + n) all
each_shifted P more n [] each = tt
each_shifted P more n (a ∷ rest) each =
    let next : more + (n + 1) ≡ more + n + 1 = omega arith in
    (each.0, subst (λ k. EachFrom P k rest) next (each_shifted P more (n + 1) rest each.1))
