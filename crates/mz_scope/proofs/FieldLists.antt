-- Lists of fields' names, gone over from their front.
use Rattle.std.proofs.Common.{◌≡◌, ℕ, suc, ◌≤◌, List, [], ◌∷◌, length, take, map, Some, refl, sym, ap, ◌∙◌, subst}
use Rattle.std.specs.Prelude.{unwrap_or}
use Rattle.std.proofs.lemmas.List.{take_all}
use Rattle.mz_scope.specs.Names.{Names, ConEntry, find}
use Rattle.mz_scope.specs.Types.{names_in, in_order}

abbrev value_in : Names ℕ → List ℕ → ℕ
value_in written field = unwrap_or (find written field) 0

by_name : (written fields : Names ℕ) → map (value_in written) (names_in fields) ≡ map (λ (field : List ℕ × ℕ). unwrap_or (find written field.0) 0) fields
by_name written [] = refl
by_name written (field ∷ rest) = ap (λ l. value_in written field.0 ∷ l) (by_name written rest)

same_length : (written fields : Names ℕ) → length (map (value_in written) (names_in fields)) ≡ length fields
same_length written [] = refl
same_length written (field ∷ rest) = ap (λ n. suc n) (same_length written rest)

-- the values of all fields are those in declared order
pub all_in_order : (con : ConEntry) (written fields : Names ℕ) (values : List ℕ) (i : ℕ) → fields ≡ con.fields → length fields ≤ i → values ≡ take i (map (value_in written) (names_in fields)) → values ≡ in_order (Some con) written
all_in_order con written fields values i e h v =
    v ∙ take_all i (map (value_in written) (names_in fields)) (subst (λ n. n ≤ i) (sym (same_length written fields)) h)
    ∙ by_name written fields ∙ ap (map (λ (field : List ℕ × ℕ). unwrap_or (find written field.0) 0)) e
