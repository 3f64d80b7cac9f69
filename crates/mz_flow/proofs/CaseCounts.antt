-- Counting the cases of a constructor one by one.
use Rattle.std.proofs.Common.{◌≡◌, ◌==◌, ◌+◌, ◌<◌, inl, inr, get_or, if◌then◌else◌, true, false, ℕ, List, ◌∷◌, length, drop, Some, slice_get, ap, ◌∙◌, arith}
use Rattle.std.proofs.lemmas.Bool.Decides.{eqb_tells}
use Rattle.std.proofs.lemmas.Option.{slice_get-get_or}
use Rattle.mz_tree.specs.Code.{The_case}
use Rattle.mz_tree.specs.View.{plain_body, plain_cases}
use Rattle.mz_tree.specs.declared.code.Case.{Case as CodeCase, out-Case}
use Rattle.mz_tree.proofs.CodeViews.{plain_case_is}
use Rattle.mz_perm.proofs.Remaining.{drop_at}
use Rattle.mz_flow.specs.Branches.{cases_at}

-- the cases of a constructor from a place on: that of the place, if it is one, and those after it
from_place : (cases : List CodeCase) (i con : ℕ) (x : CodeCase) → slice_get cases i ≡ Some x → cases_at con (plain_cases (drop i cases)) ≡ (if (out-Case x).con == con then The_case (out-Case x).con (plain_body (out-Case x).body) ∷ cases_at con (plain_cases (drop (i + 1) cases)) else cases_at con (plain_cases (drop (i + 1) cases)))
from_place cases i con x e = ap (λ l. cases_at con (plain_cases l)) (drop_at cases i x e) ∙ ap (λ c. cases_at con (c ∷ plain_cases (drop (i + 1) cases))) (plain_case_is x)

-- the test of a case at a place
is_it : (n m : ℕ) → n ≡ m → (n == m) ≡ true
is_it n m e = elim (eqb_tells n m) [
  | inl t ↦ t.0
  | inr t ↦ absurd (t.1 e)
]

isnt_it : (n m : ℕ) → (n ≡ m → ⊥) → (n == m) ≡ false
isnt_it n m e = elim (eqb_tells n m) [
  | inl t ↦ absurd (e t.1)
  | inr t ↦ t.0
]

-- one more is counted where the case is of the constructor
pub counted : (cases : List CodeCase) (i con before after total : ℕ) (d : CodeCase) → i < length cases → (out-Case (get_or cases i d)).con ≡ con → after ≡ before + 1 → total ≡ before + length (cases_at con (plain_cases (drop i cases))) → total ≡ after + length (cases_at con (plain_cases (drop (i + 1) cases)))
counted cases i con before after total d l h a t =
    let x = get_or cases i d in
    let more = cases_at con (plain_cases (drop (i + 1) cases)) in
    let whole : cases_at con (plain_cases (drop i cases)) ≡ The_case (out-Case x).con (plain_body (out-Case x).body) ∷ more = from_place cases i con x (slice_get-get_or cases i d l) ∙ ap (λ b. if b then The_case (out-Case x).con (plain_body (out-Case x).body) ∷ more else more) (is_it (out-Case x).con con h) in
    let one : length (cases_at con (plain_cases (drop i cases))) ≡ length more + 1 = ap length whole ∙ omega arith in
    omega (arith, one, a, t)

-- and none where it isn't
pub passed : (cases : List CodeCase) (i con before after total : ℕ) (d : CodeCase) → i < length cases → ((out-Case (get_or cases i d)).con ≡ con → ⊥) → after ≡ before → total ≡ before + length (cases_at con (plain_cases (drop i cases))) → total ≡ after + length (cases_at con (plain_cases (drop (i + 1) cases)))
passed cases i con before after total d l h a t =
    let x = get_or cases i d in
    let more = cases_at con (plain_cases (drop (i + 1) cases)) in
    let whole : cases_at con (plain_cases (drop i cases)) ≡ more = from_place cases i con x (slice_get-get_or cases i d l) ∙ ap (λ b. if b then The_case (out-Case x).con (plain_body (out-Case x).body) ∷ more else more) (isnt_it (out-Case x).con con h) in
    let none : length (cases_at con (plain_cases (drop i cases))) ≡ length more = ap length whole in
    omega (arith, none, a, t)
