-- Numbers in order.
use Rattle.std.proofs.Common.{◌≡◌, ℕ, ◌+◌, List, [], ◌∷◌, ◌++◌, map, refl, sym, ap, ◌∙◌}
use Rattle.std.specs.List.{range_with_len}
use Rattle.std.proofs.lemmas.List.FromFn.{map-range_with_len_more}

alone : (l : List ℕ) → map (λ n. n) l ≡ l
alone [] = refl
alone (n ∷ rest) = ap (λ l. n ∷ l) (alone rest)

-- one more number stands at the end
pub range_more : (a n : ℕ) → range_with_len a (n + 1) ≡ range_with_len a n ++ (a + n) ∷ []
range_more a n = sym (alone (range_with_len a (n + 1))) ∙ map-range_with_len_more (λ k. k) a n (a + n) refl ∙ ap (λ l. l ++ (a + n) ∷ []) (alone (range_with_len a n))
