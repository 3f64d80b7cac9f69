-- Threads that haven't started, one after the other.
use Rattle.std.proofs.Common.{◌≡◌, ◌⊎◌, inl, inr, ℕ, zero, suc, List, [], ◌∷◌, ◌++◌, length, Some, None, refl, sym, ap, ◌∙◌}
use Rattle.std.specs.Prelude.{slice_get}
use Rattle.mz_words.specs.Steps.{opening}
use Rattle.mz_thread.specs.declared.thread.Thread.{Thread}

some_is : {A : Type 0} {x y : A} → Some x ≡ Some y → x ≡ y
some_is q = cc

none_is : {A : Type 0} {y : A} → None ≡ Some y → ⊥
none_is q = absurd (cc)

-- an element of a list with one more is one of the list or the last
last_or : {A : Type 0} (xs : List A) (x y : A) (j : ℕ) → slice_get (xs ++ x ∷ []) j ≡ Some y → (slice_get xs j ≡ Some y) ⊎ ((j ≡ length xs) × (x ≡ y))
last_or [] x y zero e = inr (refl, some_is e)
last_or [] x y (suc j) e = absurd (none_is e)
last_or (z ∷ xs) x y zero e = inl e
last_or (z ∷ xs) x y (suc j) e = elim (last_or xs x y j e) [
  | inl h ↦ inl h
  | inr h ↦ inr (ap suc h.0, h.1)
]

pub one_more : (ts : List Thread) (n : ℕ) (u : Thread) → length ts ≡ n → ((k : ℕ) (t : Thread) → slice_get ts k ≡ Some t → (t.actor ≡ k) × (t.machine ≡ opening)) → u.actor ≡ n → u.machine ≡ opening
    → (k : ℕ) (t : Thread) → slice_get (ts ++ u ∷ []) k ≡ Some t → (t.actor ≡ k) × (t.machine ≡ opening)
one_more ts n u long each number stands k t e = elim (last_or ts u t k e) [
  | inl h ↦ each k t h
  | inr h ↦ (ap (λ (x : Thread). x.actor) (sym h.1) ∙ number ∙ sym long ∙ sym h.0, ap (λ (x : Thread). x.machine) (sym h.1) ∙ stands)
]
