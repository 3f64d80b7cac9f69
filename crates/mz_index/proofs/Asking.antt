-- Asking an index again from the next place, until what it finds meets a condition of the caller's own.
use Rattle.std.proofs.Common.{◌≡◌, ◌⊎◌, ◌<◌, ◌≤◌, ◌+◌, inl, inr, ℕ, zero, suc, arith, List, Some, None, slice_get, refl, sym, ap, ◌∙◌, subst}
use Rattle.mz_tree.specs.Plain.{Atom}
use Rattle.mz_index.specs.Finding.{IsFirst, NoneFits, InClass}
use Rattle.mz_index.specs.Tests.{Test, Passes}
use Rattle.mz_index.specs.Questions.{IsFrom, FirstFrom}

some_is : {A : Type 0} (a b : A) → Some a ≡ Some b → a ≡ b
some_is a b e = cc

-- nothing before this place meets the condition
abbrev pub NoneBelow : (Atom ℕ → Type 0) → List (Atom ℕ) → ℕ → Type 0
NoneBelow P R n = (k : ℕ) (b : Atom ℕ) → k < n → slice_get R k ≡ Some b → P b → ⊥

module _ (P : Atom ℕ → Type 0) (R : List (Atom ℕ)) (x : ℕ) (test : Test) (wider : (b : Atom ℕ) → P b → InClass R x (Passes R test) b) where
  pub asks_start : NoneBelow P R 0
  asks_start k b h = absurd (omega (arith, h))

  -- there is nothing more
  pub asks_none : (from : ℕ) → NoneBelow P R from → FirstFrom R x from test None → NoneFits P R
  asks_none from below f k b g p = elim (side k from) [ inl h ↦ below k b h g p | inr h ↦ f k b h g (wider b p) ]
    where
      side : (k from : ℕ) → (k < from) ⊎ (from ≤ k)
      side zero zero = inr (omega arith)
      side zero (suc from) = inl (omega arith)
      side (suc k) zero = inr (omega arith)
      side (suc k) (suc from) = elim (side k from) [ inl h ↦ inl (omega (arith, h)) | inr h ↦ inr (omega (arith, h)) ]

  -- what is found doesn't meet it: ask again from the next place
  pub asks_again : (from n : ℕ) → NoneBelow P R from → (f : IsFrom R x from test n) → (P f.one → ⊥) → NoneBelow P R (n + 1)
  asks_again from n below f no_fit k b h g p = elim (where_is k from n h) [
    | inl l ↦ below k b l g p
    | inr s ↦ elim s [
      | inl m ↦ f.before k b m.0 m.1 g (wider b p)
      | inr e ↦ no_fit (subst P (some_is b f.one (sym g ∙ ap (slice_get R) e ∙ f.stands)) p)
    ]
  ]
    where
      where_is : (k from n : ℕ) → k < n + 1 → (k < from) ⊎ (((from ≤ k) × (k < n)) ⊎ (k ≡ n))
      where_is zero zero zero h = inr (inr refl)
      where_is zero zero (suc n) h = inr (inl (omega arith, omega arith))
      where_is zero (suc from) n h = inl (omega arith)
      where_is (suc k) from zero h = absurd (omega (arith, h))
      where_is (suc k) zero (suc n) h = elim (where_is k 0 n (omega (arith, h))) [
        | inl l ↦ absurd (omega (arith, l))
        | inr s ↦ elim s [ inl m ↦ inr (inl (omega arith, omega (arith, m.1))) | inr e ↦ inr (inr (ap suc e)) ]
      ]
      where_is (suc k) (suc from) (suc n) h = elim (where_is k from n (omega (arith, h))) [
        | inl l ↦ inl (omega (arith, l))
        | inr s ↦ elim s [ inl m ↦ inr (inl (omega (arith, m.0), omega (arith, m.1))) | inr e ↦ inr (inr (ap suc e)) ]
      ]

  -- it does: this is the first
  pub asks_found : (from n : ℕ) → NoneBelow P R from → (f : IsFrom R x from test n) → P f.one → IsFirst P R n f.one
  asks_found from n below f fits = record { stands = f.stands; fits = fits; before = λ k b h g p. elim (side k from) [ inl l ↦ below k b l g p | inr m ↦ f.before k b m h g (wider b p) ] }
    where
      side : (k from : ℕ) → (k < from) ⊎ (from ≤ k)
      side zero zero = inr (omega arith)
      side zero (suc from) = inl (omega arith)
      side (suc k) zero = inr (omega arith)
      side (suc k) (suc from) = elim (side k from) [ inl h ↦ inl (omega (arith, h)) | inr h ↦ inr (omega (arith, h)) ]
