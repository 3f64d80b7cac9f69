-- Declarations found by their names.
use Rattle.std.proofs.Common.{◌≡◌, ℕ, zero, suc, ◌+◌, Bool, true, false, cond, List, [], ◌∷◌, map, Some, None, slice_get, refl, sym, ap, subst, ◌∙◌, arith, add-zero}
use Rattle.std.specs.List.{position_from}
use Rattle.std.specs.Str.{bytes_eq}
use Rattle.std.proofs.lemmas.Slice.Eq.{bytes_eq-Decides}
use Rattle.mz_tree.specs.Spellings.{key_texts, number_in}

pub same_text : (a b : List ℕ) → bytes_eq a b ≡ true → a ≡ b
same_text a b e = (bytes_eq-Decides a b).0 e

pub text_same : (a b : List ℕ) → a ≡ b → bytes_eq a b ≡ true
text_same a b e = (bytes_eq-Decides a b).1 e

-- texts that differ
pub differ : (a b : List ℕ) → (a ≡ b → ⊥) → bytes_eq a b ≡ false
differ a b h = by_test (bytes_eq a b) refl
  where
    by_test : (t : Bool) → bytes_eq a b ≡ t → bytes_eq a b ≡ false
    by_test true e = absurd (h (same_text a b e))
    by_test false e = e

module _ {A : Type 0} (name : A → List ℕ) (word : List ℕ) where
  -- what was found has the name
  pub record Found (i k : ℕ) (xs : List A) : Type 0 where
    pub at : ℕ
    pub number : k ≡ i + at
    pub value : A
    pub there : slice_get xs at ≡ Some value
    pub named : word ≡ name value

  pub found_at : (i k : ℕ) (xs : List A) → position_from (bytes_eq word) i (map name xs) ≡ Some k → Found i k xs
  found_at i k [] e = cc
  found_at i k (x ∷ xs) e = by_test (bytes_eq word (name x)) refl (found_at (i + 1) k xs) e
    where
      by_test : (b : Bool) → bytes_eq word (name x) ≡ b → (position_from (bytes_eq word) (i + 1) (map name xs) ≡ Some k → Found (i + 1) k xs) → cond b (Some i) (position_from (bytes_eq word) (i + 1) (map name xs)) ≡ Some k → Found i k (x ∷ xs)
      by_test true same more h = let here : i ≡ k = cc in record { at = 0; number = omega arith; value = x; there = refl; named = same_text word (name x) same }
      by_test false other more h = let w = more h in record { at = suc w.at; number = (let n = w.number in omega arith); value = w.value; there = w.there; named = w.named }

  pub number_found : (k : ℕ) (xs : List A) → number_in (map name xs) word ≡ Some k → Found 0 k xs
  number_found k xs e = found_at 0 k xs e

  -- the one of that name is found
  pub finds_at : (i k : ℕ) (xs : List A) (x : A) → slice_get xs k ≡ Some x → word ≡ name x → ((j : ℕ) (y : A) → slice_get xs j ≡ Some y → word ≡ name y → j ≡ k) → position_from (bytes_eq word) i (map name xs) ≡ Some (i + k)
  finds_at i k [] x e n one = cc
  finds_at i zero (y ∷ xs) x e n one = ap (λ b. cond b (Some i) (position_from (bytes_eq word) (i + 1) (map name xs))) (text_same word (name y) (n ∙ (let same : x ≡ y = cc in ap name same))) ∙ ap Some (sym (add-zero i))
  finds_at i (suc k) (y ∷ xs) x e n one =
      ap (λ b. cond b (Some i) (position_from (bytes_eq word) (i + 1) (map name xs))) (differ word (name y) (λ same. (let bad : 0 ≡ suc k = one 0 y refl same in omega arith)))
      ∙ finds_at (i + 1) k xs x e n (λ j z g h. (let next : suc j ≡ suc k = one (suc j) z g h in omega arith)) ∙ ap Some (let moved : (i + 1) + k ≡ i + suc k = omega arith in moved)

  pub finds : (k : ℕ) (xs : List A) (x : A) → slice_get xs k ≡ Some x → word ≡ name x → ((j : ℕ) (y : A) → slice_get xs j ≡ Some y → word ≡ name y → j ≡ k) → number_in (map name xs) word ≡ Some k
  finds k xs x e n one = finds_at 0 k xs x e n one ∙ ap Some (let same : 0 + k ≡ k = omega arith in same)

  -- none of that name
  pub finds_none : (i : ℕ) (xs : List A) → ((j : ℕ) (y : A) → slice_get xs j ≡ Some y → word ≡ name y → ⊥) → position_from (bytes_eq word) i (map name xs) ≡ None
  finds_none i [] none = refl
  finds_none i (y ∷ xs) none =
      ap (λ b. cond b (Some i) (position_from (bytes_eq word) (i + 1) (map name xs))) (differ word (name y) (none 0 y refl)) ∙ finds_none (i + 1) xs (λ j z g h. none (suc j) z g h)

-- a word that is no key isn't this key
pub no_key : (word key : List ℕ) (n : ℕ) → number_in key_texts word ≡ None → number_in key_texts key ≡ Some n → word ≡ key → ⊥
no_key word key n none some same = let bad : number_in key_texts key ≡ None = subst (λ w. number_in key_texts w ≡ None) same none in cc
