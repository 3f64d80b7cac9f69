-- What stands at the places of a list, and what does where one more comes.
use Rattle.std.proofs.Common.{◌≡◌, ◌≢◌, ℕ, zero, suc, List, [], ◌∷◌, ◌++◌, length, Option, Some, None, refl, ap, slice_get}

-- no place both has nothing and something
pub none_some : {X : Type 0} (o : Option X) (x : X) → o ≡ None → o ≡ Some x → ⊥
none_some o x nothing something = cc

-- what stands at a place is one thing
pub some_is : {X : Type 0} (o : Option X) (x y : X) → o ≡ Some x → o ≡ Some y → x ≡ y
some_is o x y this that = cc

-- what stood stays where more follow
pub stays : {X : Type 0} (xs : List X) (more : List X) (i : ℕ) (x : X) → slice_get xs i ≡ Some x → slice_get (xs ++ more) i ≡ Some x
stays [] more i x here = cc
stays (y ∷ xs) more zero x here = here
stays (y ∷ xs) more (suc i) x here = stays xs more i x here

-- the last one stands at the end
pub end_here : {X : Type 0} (xs : List X) (x : X) → slice_get (xs ++ x ∷ []) (length xs) ≡ Some x
end_here [] x = refl
end_here (z ∷ xs) x = end_here xs x

-- and changes nothing before it
pub end_there : {X : Type 0} (xs : List X) (x : X) (m : ℕ) → m ≢ length xs → slice_get (xs ++ x ∷ []) m ≡ slice_get xs m
end_there [] x zero differ = absurd (differ refl)
end_there [] x (suc m) differ = refl
end_there (z ∷ xs) x zero differ = refl
end_there (z ∷ xs) x (suc m) differ = end_there xs x m (λ same. differ (ap suc same))
