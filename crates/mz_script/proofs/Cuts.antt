-- The lines of a text that is put together of lines, and a text that is put together of its lines.
use Rattle.std.proofs.Common.{◌≡◌, ◌==◌, ℕ, false, List, [], ◌∷◌, ◌++◌, map, flat_map, refl, ap, ◌∙◌, if◌then◌else◌, append_assoc}
use Rattle.mz_script.specs.Cutting.{before_first, lines}

-- no line ends here
abbrev pub NoEnd : List ℕ → Type 0
NoEnd [] = Unit {0}
NoEnd (b ∷ bytes) = ((b == 10) ≡ false) × NoEnd bytes

-- a byte that ends no line stands before the first line
pub goes_on : (b : ℕ) (bytes : List ℕ) → (b == 10) ≡ false → lines (b ∷ bytes) ≡ before_first b (lines bytes)
goes_on b bytes e = ap (λ t. if t then (10 ∷ []) ∷ lines bytes else before_first b (lines bytes)) e

-- up to the first line end
pub cut_at : (front rest : List ℕ) → NoEnd front → lines (front ++ 10 ∷ rest) ≡ (front ++ 10 ∷ []) ∷ lines rest
cut_at [] rest h = refl
cut_at (b ∷ front) rest (e, h) = goes_on b (front ++ 10 ∷ rest) e ∙ ap (before_first b) (cut_at front rest h)

-- line by line
module _ {A : Type 0} (text : A → List ℕ) where
  abbrev pub AllEnd : List A → Type 0
  AllEnd [] = Unit {0}
  AllEnd (a ∷ xs) = NoEnd (text a) × AllEnd xs

  pub lines_of : (xs : List A) → AllEnd xs → lines (flat_map (λ a. text a ++ 10 ∷ []) xs) ≡ map (λ a. text a ++ 10 ∷ []) xs
  lines_of [] h = refl
  lines_of (a ∷ xs) (one, h) =
      ap lines (append_assoc (text a) (10 ∷ []) (flat_map (λ b. text b ++ 10 ∷ []) xs)) ∙ cut_at (text a) (flat_map (λ b. text b ++ 10 ∷ []) xs) one ∙ ap (λ l. (text a ++ 10 ∷ []) ∷ l) (lines_of xs h)
