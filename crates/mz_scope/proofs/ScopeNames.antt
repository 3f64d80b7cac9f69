-- Names as the code holds them: the spelling of the last.
use Rattle.std.proofs.Common.{◌≡◌, ℕ, List, [], ◌∷◌, ◌++◌, map, refl, ap}
use Rattle.mz_scope.specs.Bodies.{with_last_spelled}
use Rattle.mz_scope.specs.View.{core_name_of}
use Rattle.mz_scope.specs.declared.making.CoreName.{CoreName}

-- the last of names is spelled, by going along them
last_spelled : (text : List ℕ) (front : List CoreName) (last : CoreName) → with_last_spelled text (map core_name_of (front ++ last ∷ [])) ≡ map core_name_of (front ++ record { spelling = text; place = last.place } ∷ [])
last_spelled text [] last = refl
last_spelled text (n ∷ []) last = refl
last_spelled text (n ∷ m ∷ rest) last = ap (λ l. core_name_of n ∷ l) (last_spelled text (m ∷ rest) last)

pub spelled_last : (text : List ℕ) (old front new : List CoreName) (last : CoreName) → old ≡ front ++ last ∷ [] → new ≡ front ++ record { spelling = text; place = last.place } ∷ []
    → with_last_spelled text (map core_name_of old) ≡ map core_name_of new
spelled_last text old front new last before after = rw (before, after) (last_spelled text front last)
