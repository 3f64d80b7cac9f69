-- What is in a list: its parts, its places and its images.
use Rattle.std.proofs.Common.{◌≡◌, ◌⊎◌, inl, inr, ℕ, zero, suc, ◌+◌, ◌<◌, List, [], ◌∷◌, ◌++◌, map, Some, slice_get, slice_set, refl, sym, arith, subst}
use Rattle.mz_perm.specs.Lists.{In, TakesOne}
use Rattle.mz_perm.specs.Using.{UsesUp, UsesUpAll}
use Rattle.mz_perm.proofs.Orders.{used_in}
use Rattle.mz_decl.specs.Contents.{names_from}

-- what is in a list stands at a place
pub in_get : {A : Type 0} (a : A) (xs : List A) → In a xs → (k : ℕ) × (slice_get xs k ≡ Some a)
in_get a [] i = absurd i
in_get a (x ∷ xs) (inl e) = (zero, subst (λ y. Some y ≡ Some a) e refl)
in_get a (x ∷ xs) (inr i) = let r = in_get a xs i in (suc r.0, r.1)

-- and what stands at a place is in the list
pub get_in : {A : Type 0} (xs : List A) (k : ℕ) (a : A) → slice_get xs k ≡ Some a → In a xs
get_in [] k a e = absurd (cc)
get_in (x ∷ xs) zero a e = inl (cc)
get_in (x ∷ xs) (suc k) a e = inr (get_in xs k a e)

-- what is in two lists, one after the other, is in one of them
pub in_parts : {A : Type 0} (a : A) (xs ys : List A) → In a (xs ++ ys) → In a xs ⊎ In a ys
in_parts a [] ys i = inr i
in_parts a (x ∷ xs) ys (inl e) = inl (inl e)
in_parts a (x ∷ xs) ys (inr i) = elim (in_parts a xs ys i) [
  | inl j ↦ inl (inr j)
  | inr j ↦ inr j
]

pub in_left : {A : Type 0} (a : A) (xs ys : List A) → In a xs → In a (xs ++ ys)
in_left a [] ys i = absurd i
in_left a (x ∷ xs) ys (inl e) = inl e
in_left a (x ∷ xs) ys (inr i) = inr (in_left a xs ys i)

pub in_right : {A : Type 0} (a : A) (xs ys : List A) → In a ys → In a (xs ++ ys)
in_right a [] ys i = i
in_right a (x ∷ xs) ys i = inr (in_right a xs ys i)

-- what is among the images is the image of something
pub in_image : {A B : Type 0} (f : A → B) (b : B) (xs : List A) → In b (map f xs) → (a : A) × In a xs × (b ≡ f a)
in_image f b [] i = absurd i
in_image f b (x ∷ xs) (inl e) = (x, inl refl, e)
in_image f b (x ∷ xs) (inr i) = let r = in_image f b xs i in (r.0, inr r.1, r.2)

pub image_in : {A B : Type 0} (f : A → B) (a : A) (xs : List A) → In a xs → In (f a) (map f xs)
image_in f a [] i = absurd i
image_in f a (x ∷ xs) (inl e) = inl (subst (λ y. f a ≡ f y) e refl)
image_in f a (x ∷ xs) (inr i) = inr (image_in f a xs i)

-- where one place was set, what is there was there, or was put there
pub in_set : {A : Type 0} (xs : List A) (k : ℕ) (z a : A) → In a (slice_set xs k z) → In a xs ⊎ (a ≡ z)
in_set [] k z a i = absurd i
in_set (x ∷ xs) zero z a (inl e) = inr e
in_set (x ∷ xs) zero z a (inr i) = inl (inr i)
in_set (x ∷ xs) (suc k) z a (inl e) = inl (inl e)
in_set (x ∷ xs) (suc k) z a (inr i) = elim (in_set xs k z a i) [
  | inl j ↦ inl (inr j)
  | inr e ↦ inr e
]

-- what is left where something was taken out was there
pub left_in : {A : Type 0} (a b : A) (xs ys : List A) → TakesOne a xs ys → In b ys → In b xs
left_in a b [] ys t i = absurd t
left_in a b (x ∷ xs) ys (inl t) i = inr (subst (λ l. In b l) t.1 i)
left_in a b (x ∷ xs) ys (inr t) i = elim (subst (λ l. In b l) t.1 i) [
  | inl e ↦ inl e
  | inr j ↦ inr (left_in a b xs t.0 t.2 j)
]

-- or used up
pub unused_in : {A : Type 0} (Goes : A → Type 0) (a b : A) (xs ys : List A) → UsesUp Goes a xs ys → In b ys → In b xs
unused_in Goes a b xs ys (inl u) i = left_in a b xs ys u.1 i
unused_in Goes a b xs ys (inr u) i = subst (λ l. In b l) u.2 i

pub all_unused_in : {A : Type 0} (Goes : A → Type 0) (p : List A) (b : A) (xs ys : List A) → UsesUpAll Goes p xs ys → In b ys → In b xs
all_unused_in Goes [] b xs ys u i = subst (λ l. In b l) u i
all_unused_in Goes (a ∷ p) b xs ys u i = unused_in Goes a b xs u.0 u.1 (all_unused_in Goes p b u.0 ys u.2 i)

-- each of those that are used up was there
pub all_used_in : {A : Type 0} (Goes : A → Type 0) (p : List A) (a : A) (xs ys : List A) → UsesUpAll Goes p xs ys → In a p → In a xs
all_used_in Goes [] a xs ys u i = absurd i
all_used_in Goes (b ∷ p) a xs ys u (inl e) = subst (λ c. In c xs) (sym e) (used_in Goes b xs u.0 u.1)
all_used_in Goes (b ∷ p) a xs ys u (inr i) = unused_in Goes b a xs u.0 u.1 (all_used_in Goes p a u.0 ys u.2 i)

-- names one after the other
pub in_names_from : (m n count : ℕ) → In m (names_from n count) → m < n + count
in_names_from m n zero i = absurd i
in_names_from m n (suc count) (inl e) = omega (arith, e)
in_names_from m n (suc count) (inr i) = let h = in_names_from m (suc n) count i in omega (arith, h)
