-- The order of faults, and the first of those that were gone over.
use Rattle.std.proofs.Common.{◌≡◌, ◌⊎◌, inl, inr, ℕ, zero, suc, ◌+◌, ◌<◌, ◌≤◌, List, length, Some, slice_get, refl, sym, ap, subst, ◌∙◌, arith}
use Rattle.std.proofs.lemmas.Option.{slice_get_within}
use Rattle.mz_scope.specs.declared.fault.Fault.{Fault}
use Rattle.mz_scope.specs.Faults.{rank, IsNotAfter, IsFirst}

-- by columns and causes, on one line
abbrev ColNotAfter : Fault → Fault → Type 0
ColNotAfter a b = (a.place.col < b.place.col) ⊎ ((a.place.col ≡ b.place.col) × (rank a.cause ≤ rank b.cause))

col_trans : (a b c : Fault) → ColNotAfter a b → ColNotAfter b c → ColNotAfter a c
col_trans a b c (inl h) (inl k) = inl (omega (arith, h, k))
col_trans a b c (inl h) (inr k) = let e = k.0 in inl (omega (arith, h, e))
col_trans a b c (inr h) (inl k) = let e = h.0 in inl (omega (arith, e, k))
col_trans a b c (inr h) (inr k) = let d = h.1 in let e = k.1 in inr (h.0 ∙ k.0, omega (arith, d, e))

-- the order goes on
pub not_after_trans : (a b c : Fault) → IsNotAfter a b → IsNotAfter b c → IsNotAfter a c
not_after_trans a b c (inl h) (inl k) = inl (omega (arith, h, k))
not_after_trans a b c (inl h) (inr k) = let e = k.0 in inl (omega (arith, h, e))
not_after_trans a b c (inr h) (inl k) = let e = h.0 in inl (omega (arith, e, k))
not_after_trans a b c (inr h) (inr k) = inr (h.0 ∙ k.0, col_trans a b c h.1 k.1)

-- a fault stands with itself
not_after_itself : (a : Fault) → IsNotAfter a a
not_after_itself a = inr (refl, inr (refl, omega arith))

-- the first of those up to a number
pub record FirstOf (faults : List Fault) (i : ℕ) (first : Fault) : Type 0 where
  pub number : ℕ
  pub stands : slice_get faults number ≡ Some first
  pub before : (k : ℕ) (other : Fault) → k < i → slice_get faults k ≡ Some other → IsNotAfter first other

-- of none it is any
pub first_begins : (faults : List Fault) (first : Fault) → slice_get faults 0 ≡ Some first → FirstOf faults 0 first
first_begins faults first h = record { number = 0; stands = h; before = λ k other below is. absurd (omega (arith, below)) }

lt_or_eq : (k i : ℕ) → k ≤ i → (k < i) ⊎ (k ≡ i)
lt_or_eq zero zero h = inr refl
lt_or_eq zero (suc i) h = inl (omega arith)
lt_or_eq (suc k) zero h = absurd (omega arith)
lt_or_eq (suc k) (suc i) h = next (lt_or_eq k i (omega (arith, h)))
  where
    next : (k < i) ⊎ (k ≡ i) → (suc k < suc i) ⊎ (suc k ≡ suc i)
    next (inl less) = inl (omega (arith, less))
    next (inr same) = inr (ap suc same)

-- what comes before those before, and before the next, comes before one more
reaches : (faults : List Fault) (i : ℕ) (one new : Fault) → slice_get faults i ≡ Some one → IsNotAfter new one → ((k : ℕ) (other : Fault) → k < i → slice_get faults k ≡ Some other → IsNotAfter new other)
    → (k : ℕ) (other : Fault) → k < i + 1 → slice_get faults k ≡ Some other → IsNotAfter new other
reaches faults i one new here order before k other below found = at (lt_or_eq k i (omega (arith, below)))
  where
    at : (k < i) ⊎ (k ≡ i) → IsNotAfter new other
    at (inl less) = before k other less found
    at (inr same) =
        let both : Some one ≡ Some other = sym here ∙ ap (slice_get faults) (sym same) ∙ found in
        let equal : one ≡ other = cc in
        subst (IsNotAfter new) equal order

-- one more is gone over
pub first_goes_on : (faults : List Fault) (i : ℕ) (first one new : Fault) → FirstOf faults i first → slice_get faults i ≡ Some one → ((new ≡ first) × IsNotAfter first one) ⊎ ((new ≡ one) × IsNotAfter one first) → FirstOf faults (i + 1) new
first_goes_on faults i first one new f here (inl h) =
    subst (FirstOf faults (i + 1)) (sym h.0) (record { number = f.number; stands = f.stands; before = reaches faults i one first here h.1 f.before })
first_goes_on faults i first one new f here (inr h) =
    subst (FirstOf faults (i + 1)) (sym h.0) (record { number = i; stands = here; before = reaches faults i one one here (not_after_itself one) (λ k other below found. not_after_trans one first other h.1 (f.before k other below found)) })

-- all are gone over
pub first_ends : (faults : List Fault) (i : ℕ) (first : Fault) → FirstOf faults i first → length faults ≤ i → IsFirst faults first
first_ends faults i first f all = record {
  number = f.number;
  stands = f.stands;
  before = λ k other found. let within : k < length faults = slice_get_within faults k other found in f.before k other (omega (arith, within, all)) found;
}
