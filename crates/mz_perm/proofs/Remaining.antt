-- Using up several elements in a loop, the first copy of each: what is still to be used up leads where the whole leads.
use Rattle.std.proofs.Common.{◌≡◌, ℕ, zero, suc, ◌+◌, ◌≤◌, List, [], ◌∷◌, length, drop, Some, slice_get, refl, sym, ap, ◌∙◌, subst, arith}
use Rattle.mz_perm.specs.Lists.{First_copy, SameUpToOrder}
use Rattle.mz_perm.specs.Using.{UsesUp, UsesUpAll, UsesUpBy, UsesUpAllBy}
use Rattle.mz_perm.proofs.Firsts.{uses_any}
use Rattle.mz_perm.proofs.Orders.{perm_refl, perm_trans, uses_unique, all_same}

some_is : {A : Type 0} (a b : A) → Some a ≡ Some b → a ≡ b
some_is a b e = cc

drop_suc : {A : Type 0} (xs : List A) (i : ℕ) (x : A) → slice_get xs i ≡ Some x → drop i xs ≡ x ∷ drop (suc i) xs
drop_suc [] i x e = absurd (cc)
drop_suc (y ∷ ys) zero x e = ap (λ z. z ∷ ys) (some_is y x e)
drop_suc (y ∷ ys) (suc i) x e = drop_suc ys i x e

-- from a place on a list has what stands there, and what comes after
pub drop_at : {A : Type 0} (xs : List A) (i : ℕ) (x : A) → slice_get xs i ≡ Some x → drop i xs ≡ x ∷ drop (i + 1) xs
drop_at xs i x e = let n : suc i ≡ i + 1 = omega arith in drop_suc xs i x e ∙ ap (λ k. x ∷ drop k xs) n

-- from its end on it has nothing
pub drop_all : {A : Type 0} (xs : List A) (i : ℕ) → length xs ≤ i → drop i xs ≡ []
drop_all [] zero h = refl
drop_all [] (suc i) h = refl
drop_all (x ∷ xs) zero h = absurd (omega arith)
drop_all (x ∷ xs) (suc i) h = drop_all xs i (omega arith)

-- the elements of p before place i are used up of xs, the first copy of each, which leaves ys: from there on the rest of p
-- leads to the lists to which p leads from xs, order aside where any copies go, and exactly where the first ones do
pub record Remains {A : Type 0} (Goes : A → Type 0) (p : List A) (i : ℕ) (xs ys : List A) : Type 0 where
  pub onward : (zs : List A) → UsesUpAll Goes p xs zs → (vs : List A) × UsesUpAll Goes (drop i p) ys vs × SameUpToOrder zs vs
  pub whole : (zs : List A) → UsesUpAllBy First_copy Goes (drop i p) ys zs → UsesUpAllBy First_copy Goes p xs zs

-- at the start all of them remain
pub remains_all : {A : Type 0} (Goes : A → Type 0) (p xs : List A) → Remains Goes p 0 xs xs
remains_all Goes p xs = record { onward = λ zs u. (zs, u, perm_refl zs); whole = λ zs u. u }

-- one more is used up
pub remains_next : {A : Type 0} (Goes : A → Type 0) (p : List A) (i : ℕ) (a : A) (xs ys vs : List A) → slice_get p i ≡ Some a → UsesUpBy First_copy Goes a ys vs → Remains Goes p i xs ys → Remains Goes p (i + 1) xs vs
remains_next Goes p i a xs ys vs e u r = record {
  onward = λ zs t.
      let v = r.onward zs t in
      let w = subst (λ l. UsesUpAll Goes l ys v.0) (drop_at p i a e) v.1 in
      let q = all_same Goes (drop (i + 1) p) w.0 vs v.0 (uses_unique Goes a ys w.0 vs w.1 (uses_any Goes a ys vs u)) w.2 in
      (q.0, q.1, perm_trans zs v.0 q.0 v.2 q.2);
  whole = λ zs t. r.whole zs (subst (λ l. UsesUpAllBy First_copy Goes l ys zs) (sym (drop_at p i a e)) (vs, u, t));
}

-- where the next one can't be used up, the whole can't
pub remains_refused : {A : Type 0} (Goes : A → Type 0) (p : List A) (i : ℕ) (a : A) (xs ys : List A) → slice_get p i ≡ Some a → ((zs : List A) → UsesUp Goes a ys zs → ⊥) → Remains Goes p i xs ys → (zs : List A) → UsesUpAll Goes p xs zs → ⊥
remains_refused Goes p i a xs ys e n r zs u = let v = r.onward zs u in let w = subst (λ l. UsesUpAll Goes l ys v.0) (drop_at p i a e) v.1 in n w.0 w.1

-- where none remains, the whole is used up
pub remains_done : {A : Type 0} (Goes : A → Type 0) (p : List A) (i : ℕ) (xs ys : List A) → length p ≤ i → Remains Goes p i xs ys → UsesUpAllBy First_copy Goes p xs ys
remains_done Goes p i xs ys h r = r.whole ys (subst (λ l. UsesUpAllBy First_copy Goes l ys ys) (sym (drop_all p i h)) refl)
