-- Edits of a list of the program are edits of the list of its views.
use Rattle.std.proofs.Common.{◌≡◌, ℕ, zero, suc, ◌<◌, List, [], ◌∷◌, ◌++◌, length, map, take, drop, get_or, Some, slice_get, refl, ap, ◌∙◌, arith}
use Rattle.std.specs.List.{remove}

-- the view of a list is as long
pub long_map : {A B : Type 0} (f : A → B) (xs : List A) → length (map f xs) ≡ length xs
long_map f [] = refl
long_map f (x ∷ xs) = ap suc (long_map f xs)

map_both : {A B : Type 0} (f : A → B) (xs ys : List A) → map f (xs ++ ys) ≡ map f xs ++ map f ys
map_both f [] ys = refl
map_both f (x ∷ xs) ys = ap (λ l. f x ∷ l) (map_both f xs ys)

-- one more at the end
pub map_end : {A B : Type 0} (f : A → B) (xs : List A) (x : A) → map f (xs ++ x ∷ []) ≡ map f xs ++ f x ∷ []
map_end f xs x = map_both f xs (x ∷ [])

map_take : {A B : Type 0} (f : A → B) (n : ℕ) (xs : List A) → map f (take n xs) ≡ take n (map f xs)
map_take f zero xs = refl
map_take f (suc n) [] = refl
map_take f (suc n) (x ∷ xs) = ap (λ l. f x ∷ l) (map_take f n xs)

map_drop : {A B : Type 0} (f : A → B) (n : ℕ) (xs : List A) → map f (drop n xs) ≡ drop n (map f xs)
map_drop f zero xs = refl
map_drop f (suc n) [] = refl
map_drop f (suc n) (x ∷ xs) = map_drop f n xs

-- one more at a place
pub map_insert : {A B : Type 0} (f : A → B) (xs : List A) (n : ℕ) (x : A) → map f (take n xs ++ x ∷ drop n xs) ≡ take n (map f xs) ++ f x ∷ drop n (map f xs)
map_insert f xs n x = map_both f (take n xs) (x ∷ drop n xs) ∙ ap (λ l. l ++ f x ∷ map f (drop n xs)) (map_take f n xs) ∙ ap (λ l. take n (map f xs) ++ f x ∷ l) (map_drop f n xs)

-- what stands at a place taken out
pub map_remove : {A B : Type 0} (f : A → B) (xs : List A) (n : ℕ) → map f (remove xs n) ≡ remove (map f xs) n
map_remove f xs n = map_both f (take n xs) (drop (suc n) xs) ∙ ap (λ l. l ++ map f (drop (suc n) xs)) (map_take f n xs) ∙ ap (λ l. take n (map f xs) ++ l) (map_drop f (suc n) xs)

-- what stands at a place
pub map_at : {A B : Type 0} (f : A → B) (xs : List A) (n : ℕ) (x : A) → n < length xs → x ≡ get_or xs n x → slice_get (map f xs) n ≡ Some (f x)
map_at f [] n x h e = absurd (omega arith)
map_at f (y ∷ ys) zero x h e = ap (λ z. Some (f z)) (let s : y ≡ x = cc in s)
map_at f (y ∷ ys) (suc n) x h e = map_at f ys n x (omega arith) e
