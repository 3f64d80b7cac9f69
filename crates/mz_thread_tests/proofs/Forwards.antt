-- Instructions that were looked at one behind the other.
use Rattle.std.proofs.Common.{◌≡◌, ◌+◌, ◌<◌, ◌≤◌, ◌⊎◌, inl, inr, ⊎_elim, ℕ, zero, suc, List, [], ◌∷◌, length, Option, Some, None, refl, sym, subst, arith, slice_get}
use Rattle.mz_words.specs.declared.code.Instr.{Instr}
use Rattle.mz_thread.specs.Keeping.{IsForward, IsForwardAt}

less_or_is : (at i : ℕ) → at < i + 1 → (at < i) ⊎ (at ≡ i)
less_or_is zero zero h = inr refl
less_or_is zero (suc i) h = inl (omega arith)
less_or_is (suc at) zero h = absurd (omega (arith, h))
less_or_is (suc at) (suc i) h = ⊎_elim (λ l. inl (omega (arith, l))) (λ e. inr (omega (arith, e))) (less_or_is at i (omega (arith, h)))

pub forward_on : (xs : List Instr) (i : ℕ) (x : Instr) → ((at : ℕ) → at < i → IsForwardAt at (slice_get xs at)) → slice_get xs i ≡ Some x → IsForward i x.act → (at : ℕ) → at < i + 1 → IsForwardAt at (slice_get xs at)
forward_on xs i x so e f at h = ⊎_elim (so at)
    (λ q. subst (λ k. IsForwardAt k (slice_get xs k)) (sym q) (subst (λ (y : Option Instr). IsForwardAt i y) (sym e) f))
    (less_or_is at i h)

past : (xs : List Instr) (at : ℕ) → length xs ≤ at → slice_get xs at ≡ None
past [] zero h = refl
past [] (suc at) h = refl
past (x ∷ xs) zero h = absurd (omega (arith, h))
past (x ∷ xs) (suc at) h = past xs at (omega (arith, h))

less_or_more : (at n : ℕ) → (at < n) ⊎ (n ≤ at)
less_or_more zero zero = inr (omega arith)
less_or_more zero (suc n) = inl (omega arith)
less_or_more (suc at) zero = inr (omega arith)
less_or_more (suc at) (suc n) = ⊎_elim (λ l. inl (omega (arith, l))) (λ m. inr (omega (arith, m))) (less_or_more at n)

pub forward_all : (xs : List Instr) (i : ℕ) → length xs ≤ i → ((at : ℕ) → at < i → IsForwardAt at (slice_get xs at)) → (at : ℕ) → IsForwardAt at (slice_get xs at)
forward_all xs i l so at = ⊎_elim (so at) (λ m. subst (λ (y : Option Instr). IsForwardAt at y) (sym (past xs at (omega (arith, l, m)))) tt) (less_or_more at i)
