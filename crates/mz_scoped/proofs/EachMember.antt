-- What holds of each member of a list, along the list.
use Rattle.std.proofs.Common.{◌≡◌, zero, suc, List, [], ◌∷◌, subst}
use Rattle.mz_tree.specs.Scoped.{Each}

-- of no member
pub each_none : {A : Type 0} (P : A → Type 0) → Each (λ _ a. P a) []
each_none P k a at = cc

-- of the first, and of the others
pub each_more : {A : Type 0} (P : A → Type 0) (a : A) (rest : List A) → P a → Each (λ _ x. P x) rest → Each (λ _ x. P x) (a ∷ rest)
each_more P a rest first others zero x at =
    let same : a ≡ x = cc in
    subst P same first
each_more P a rest first others (suc k) x at = others k x at
