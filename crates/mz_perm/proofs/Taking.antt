-- Finding in a list of the program is finding in the list of its views.
use Rattle.std.proofs.Common.{◌≡◌, inl, inr, ℕ, zero, suc, List, [], ◌∷◌, length, map, Some, slice_get, refl, sym, ap, arith, subst}
use Rattle.std.specs.List.{remove}
use Rattle.mz_perm.specs.Lists.{In, TakesFirst, NotBefore}
use Rattle.mz_tree.specs.declared.types.Atom.{Atom as CodeAtom}
use Rattle.mz_tree.specs.View.{plain_atom, plain_atoms}
use Rattle.mz_tree.proofs.Views.{same_plain}

some_is : {A : Type 0} (a b : A) → Some a ≡ Some b → a ≡ b
some_is a b e = cc

-- what stands at no place isn't in the list, by looking at each place in turn
pub not_in : {A B : Type 0} (f : A → B) (inj : (x y : A) → f x ≡ f y → x ≡ y) (a : A) (xs : List A) → NotBefore (length xs) a xs → In (f a) (map f xs) → ⊥
not_in f inj a [] n i = absurd i
not_in f inj a (x ∷ xs) n (inl e) = n 0 (omega arith) (ap Some (sym (inj a x e)))
not_in f inj a (x ∷ xs) n (inr i) = not_in f inj a xs (λ k h e. n (suc k) (omega arith) e) i

-- what stands at a place is in the list, by going to that place
pub is_in : {A B : Type 0} (f : A → B) (a : A) (xs : List A) (n : ℕ) → slice_get xs n ≡ Some a → In (f a) (map f xs)
is_in f a [] n e = absurd (cc)
is_in f a (x ∷ xs) zero e = inl (ap f (sym (some_is x a e)))
is_in f a (x ∷ xs) (suc n) e = inr (is_in f a xs n e)

-- without its first place a list is without its first copy, since what stands before isn't equal
pub takes_at : {A B : Type 0} (f : A → B) (inj : (x y : A) → f x ≡ f y → x ≡ y) (a : A) (xs : List A) (n : ℕ) → slice_get xs n ≡ Some a → NotBefore n a xs → TakesFirst (f a) (map f xs) (map f (remove xs n))
takes_at f inj a [] n e h = absurd (cc)
takes_at f inj a (x ∷ xs) zero e h = inl (ap f (sym (some_is x a e)), refl)
takes_at f inj a (x ∷ xs) (suc n) e h = inr ((λ p. h 0 (omega arith) (ap Some (sym (inj a x p)))), (map f (remove xs n), refl, takes_at f inj a xs n e (λ k l. h (suc k) (omega arith))))

-- the three facts about the permissions of a state
pub found : (a : CodeAtom) (xs s : List CodeAtom) (n : ℕ) → slice_get s n ≡ Some a → s ≡ xs → In (plain_atom a) (plain_atoms xs)
found a xs s n e p = is_in plain_atom a xs n (subst (λ l. slice_get l n ≡ Some a) p e)

pub not_found : (a : CodeAtom) (xs s : List CodeAtom) → NotBefore (length s) a s → s ≡ xs → In (plain_atom a) (plain_atoms xs) → ⊥
not_found a xs s h p = not_in plain_atom same_plain a xs (subst (λ l. NotBefore (length l) a l) p h)

pub removed : (a : CodeAtom) (xs s ys : List CodeAtom) (n : ℕ) → slice_get s n ≡ Some a → NotBefore n a s → s ≡ xs → ys ≡ remove xs n → TakesFirst (plain_atom a) (plain_atoms xs) (plain_atoms ys)
removed a xs s ys n e h p r = subst (λ l. TakesFirst (plain_atom a) (plain_atoms xs) (plain_atoms l)) (sym r) (takes_at plain_atom same_plain a xs n (subst (λ l. slice_get l n ≡ Some a) p e) (subst (λ l. NotBefore n a l) p h))
