-- Lists that a loop goes along, from a place on.
use Rattle.std.proofs.Common.{◌≡◌, ℕ, zero, suc, ◌+◌, ◌<◌, ◌≤◌, List, [], ◌∷◌, ◌++◌, length, map, drop, get_or, refl, sym, ap, ◌∙◌, arith}
use Rattle.std.proofs.Math.Seq.{drop-cons}
use Rattle.std.proofs.lemmas.List.{drop_all}
use Rattle.mz_decl.specs.Contents.{names_from}

-- from a place on, the images are that of the element there and those from the next place on
pub next_of : {A B : Type 0} (f : A → B) (xs : List A) (i : ℕ) (x : A) → i < length xs → x ≡ get_or xs i x → map f (drop i xs) ≡ f x ∷ map f (drop (i + 1) xs)
next_of f xs i x h e =
    let n : suc i ≡ i + 1 = omega arith in
    ap (map f) (drop-cons xs i x h ∙ ap (λ y. y ∷ drop (suc i) xs) (sym e) ∙ ap (λ k. x ∷ drop k xs) n)

-- past the last place there is nothing
pub none_of : {A B : Type 0} (f : A → B) (xs : List A) (i : ℕ) → length xs ≤ i → map f (drop i xs) ≡ []
none_of f xs i h = ap (map f) (drop_all i xs h)

-- one name more stands at the end
pub names_end : (n count : ℕ) → names_from n count ++ (n + count) ∷ [] ≡ names_from n (suc count)
names_end n zero = let e : n + 0 ≡ n = omega arith in ap (λ k. k ∷ []) e
names_end n (suc count) = let e : n + suc count ≡ suc n + count = omega arith in ap (λ l. n ∷ l) (ap (λ k. names_from (suc n) count ++ k ∷ []) e ∙ names_end (suc n) count)

-- what stands at a place within a list doesn't depend on what is given for past its end
pub same_at : {A : Type 0} (xs : List A) (i : ℕ) (d e : A) → i < length xs → get_or xs i d ≡ get_or xs i e
same_at [] i d e h = absurd (omega (arith, h))
same_at (x ∷ xs) zero d e h = refl
same_at (x ∷ xs) (suc i) d e h = same_at xs i d e (omega (arith, h))
