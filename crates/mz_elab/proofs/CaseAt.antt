-- The search for the case of a constructor.
use Rattle.std.proofs.Common.{◌≡◌, inl, inr, ℕ, suc, ◌+◌, ◌<◌, ◌≤◌, List, [], ◌∷◌, length, get_or, Some, slice_get, sym, ap, ◌∙◌, arith}
use Rattle.std.specs.Prelude.{option_map}
use Rattle.std.proofs.lemmas.List.{length-map}
use Rattle.std.proofs.lemmas.Bool.{cases_lt}
use Rattle.std.proofs.lemmas.Option.{slice_get-get_or, slice_get-map}
use Rattle.mz_tree.specs.Code.{Case, con_of}
use Rattle.mz_tree.specs.View.{plain_case, plain_cases}
use Rattle.mz_tree.specs.declared.code.Case.{Case as CodeCase, out-Case}
use Rattle.mz_tree.proofs.CodeViews.{plain_case_is}
use Rattle.mz_decl.proofs.Adopters.{some_is}
use Rattle.mz_perm.specs.Lists.{In}
use Rattle.mz_index.specs.Finding.{IsFirst}
use Rattle.mz_elab.specs.Walking.{HasCase}

-- none of the first i cases is of the constructor
abbrev pub NoCaseBelow : List CodeCase → ℕ → ℕ → Type 0
NoCaseBelow cases con i = (j : ℕ) (k : Case) → j < i → slice_get (plain_cases cases) j ≡ Some k → con_of k ≡ con → ⊥

-- the case at a place, as it is seen
case_at : (cases : List CodeCase) (i : ℕ) (x : CodeCase) → i < length cases → x ≡ get_or cases i x → slice_get (plain_cases cases) i ≡ Some (plain_case x)
case_at cases i x w h = slice_get-map plain_case cases i ∙ ap (option_map plain_case) (slice_get-get_or cases i x w ∙ ap Some (sym h))

con_is : (x : CodeCase) → con_of (plain_case x) ≡ (out-Case x).con
con_is x = ap con_of (plain_case_is x)

pub case_next : (cases : List CodeCase) (con i : ℕ) (x : CodeCase) → i < length cases → x ≡ get_or cases i x → NoCaseBelow cases con i → ((out-Case x).con ≡ con → ⊥) → NoCaseBelow cases con (i + 1)
case_next cases con i x w h below other j k l s is = elim (cases_lt j i) [
  | inl small ↦ below j k small s is
  | inr large ↦ let same : i ≡ j = omega arith in other (sym (con_is x) ∙ ap con_of (some_is (plain_case x) k (sym (case_at cases i x w h) ∙ ap (slice_get (plain_cases cases)) same ∙ s)) ∙ is)
]

pub case_found : (cases : List CodeCase) (con i : ℕ) (x : CodeCase) → i < length cases → x ≡ get_or cases i x → NoCaseBelow cases con i → (out-Case x).con ≡ con → (c : Case) → slice_get (plain_cases cases) i ≡ Some c → IsFirst (λ (k : Case). con_of k ≡ con) (plain_cases cases) i c
case_found cases con i x w h below is c s = record {
  stands = s;
  fits = ap con_of (some_is c (plain_case x) (sym s ∙ case_at cases i x w h)) ∙ con_is x ∙ is;
  before = λ j k l t e. below j k l t e;
}

-- a member stands at a place
member_at : {A : Type 0} (a : A) (xs : List A) → In a xs → (i : ℕ) × (i < length xs) × (slice_get xs i ≡ Some a)
member_at a [] m = absurd m
member_at a (x ∷ xs) (inl e) = (0, omega arith, ap Some (sym e))
member_at a (x ∷ xs) (inr m) = let p = member_at a xs m in (suc p.0, omega (arith, p.1), p.2)

pub case_missed : (cases : List CodeCase) (con i : ℕ) → length cases ≤ i → HasCase con (plain_cases cases) → NoCaseBelow cases con i → ⊥
case_missed cases con i w h below =
    let p = member_at h.0 (plain_cases cases) h.1 in
    below p.0 h.0 (omega (arith, p.1, w, length-map cases plain_case)) p.2 h.2
