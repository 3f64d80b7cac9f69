-- The registers of a frame that is made.
use Rattle.std.proofs.Common.{◌≡◌, ◌+◌, ◌-◌, ◌<◌, ℕ, zero, suc, List, [], ◌∷◌, ◌++◌, length, map, drop, get_or, refl, sym, ap, ◌∙◌, arith, append_assoc}
use Rattle.mz_words.specs.Steps.{zeros}

zeros_at : (n k : ℕ) → n ≡ suc k → 0 ∷ zeros k ≡ zeros n
zeros_at n k e = sym (ap zeros e)

pub zeros_next : (xs ys rest : List ℕ) (count i : ℕ) → i < count → xs ++ zeros (count - i) ≡ rest → ys ≡ xs ++ 0 ∷ [] → ys ++ zeros (count - (i + 1)) ≡ rest
zeros_next xs ys rest count i h e y = let n : count - i ≡ suc (count - (i + 1)) = omega (arith, h) in
    ap (λ (l : List ℕ). l ++ zeros (count - (i + 1))) y ∙ append_assoc xs (0 ∷ []) (zeros (count - (i + 1))) ∙ ap (λ (l : List ℕ). xs ++ l) (zeros_at (count - i) (count - (i + 1)) n) ∙ e

nil_right : (xs : List ℕ) → xs ≡ xs ++ []
nil_right [] = refl
nil_right (x ∷ xs) = ap (λ (l : List ℕ). x ∷ l) (nil_right xs)

pub zeros_end : (xs rest : List ℕ) (k : ℕ) → k ≡ 0 → xs ++ zeros k ≡ rest → xs ≡ rest
zeros_end xs rest k z e = nil_right xs ∙ ap (λ n. xs ++ zeros n) (sym z) ∙ e

drop_one : (f : ℕ → ℕ) (xs : List ℕ) (i : ℕ) → i < length xs → map f (drop i xs) ≡ f (get_or xs i 0) ∷ map f (drop (suc i) xs)
drop_one f [] i h = absurd (omega (arith, h))
drop_one f (x ∷ xs) zero h = refl
drop_one f (x ∷ xs) (suc i) h = drop_one f xs i (omega (arith, h))

drop_all : (f : ℕ → ℕ) (xs : List ℕ) (i : ℕ) → length xs < i + 1 → map f (drop i xs) ≡ []
drop_all f [] zero h = refl
drop_all f [] (suc i) h = refl
drop_all f (x ∷ xs) zero h = absurd (omega (arith, h))
drop_all f (x ∷ xs) (suc i) h = drop_all f xs i (omega (arith, h))

pub args_next : (f : ℕ → ℕ) (args xs ys rest : List ℕ) (i : ℕ) → i < length args → xs ++ map f (drop i args) ≡ rest → ys ≡ xs ++ f (get_or args i 0) ∷ [] → ys ++ map f (drop (i + 1) args) ≡ rest
args_next f args xs ys rest i h e y = let n : suc i ≡ i + 1 = omega arith in
    ap (λ (l : List ℕ). l ++ map f (drop (i + 1) args)) y ∙ append_assoc xs (f (get_or args i 0) ∷ []) (map f (drop (i + 1) args))
    ∙ ap (λ (l : List ℕ). xs ++ l) (sym (drop_one f args i h ∙ ap (λ k. f (get_or args i 0) ∷ map f (drop k args)) n)) ∙ e

pub args_end : (f : ℕ → ℕ) (args xs rest : List ℕ) (i : ℕ) → length args < i + 1 → xs ++ map f (drop i args) ≡ rest → xs ≡ rest
args_end f args xs rest i h e = nil_right xs ∙ ap (λ (l : List ℕ). xs ++ l) (sym (drop_all f args i h)) ∙ e
