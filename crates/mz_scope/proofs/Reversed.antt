-- A number is among others in whatever order they stand.
use Rattle.std.proofs.Common.{◌≡◌, ℕ, List, [], ◌∷◌, Bool, true, false, ◌||◌, ◌==◌, reverse, refl, ap, ◌∙◌}
use Rattle.std.proofs.Math.Bool.{or_comm}
use Rattle.std.proofs.lemmas.List.{reverse-append}
use Rattle.std.proofs.lemmas.List.Folds.{list_any-append}
use Rattle.mz_scope.specs.Bodies.{is_number_among}

or_none : (a : Bool) → (a || false) ≡ a
or_none true = refl
or_none false = refl

pub among_reversed : (numbers : List ℕ) (n : ℕ) → is_number_among (reverse numbers) n ≡ is_number_among numbers n
among_reversed [] n = refl
among_reversed (k ∷ rest) n =
    ap (λ l. is_number_among l n) (reverse-append (k ∷ []) rest)
    ∙ list_any-append (λ m. m == n) (reverse rest) (k ∷ [])
    ∙ ap (λ b. b || ((k == n) || false)) (among_reversed rest n)
    ∙ or_comm (is_number_among rest n) ((k == n) || false)
    ∙ ap (λ b. b || is_number_among rest n) (or_none (k == n))
