-- Numbers that were read one after the other are those of a whole script.
use Rattle.std.proofs.Common.{◌≡◌, inl, inr, ℕ, suc, ◌+◌, ◌<◌, ◌≤◌, List, [], ◌∷◌, length, map, get_or, Option, Some, slice_get, refl, sym, ap, ◌∙◌, arith, subst}
use Rattle.std.proofs.lemmas.Bool.{cases_eq}
use Rattle.std.proofs.lemmas.Option.{slice_get_within}
use Rattle.mz_tree.specs.declared.types.Atom.{Atom as CodeAtom}
use Rattle.mz_decl.proofs.Adopters.{some_is}
use Rattle.mz_decl.proofs.Limits.{item_at}
use Rattle.mz_deriv.specs.Scripts.{Item, items_of, script_cases_of}
use Rattle.mz_deriv.specs.Numbers.{ItemNumbers, ChainNumbers, OneNumbers, CaseNumbers, AreNumbers}
use Rattle.mz_deriv.specs.View.{plain_item, plain_script_case, plain_script_cases}
use Rattle.mz_deriv.specs.declared.script.Item.{Item as CodeItem, Do}
use Rattle.mz_deriv.specs.declared.script.ScriptCase.{ScriptCase as CodeCase}
use Rattle.mz_deriv.proofs.Views.{plain_do}

-- what holds of those before a place
abbrev pub Before : {A : Type 0} → (A → Type 0) → List A → ℕ → Type 0
Before P xs i = (k : ℕ) (x : _) → k < i → slice_get xs k ≡ Some x → P x

-- and of the one there
pub before_next : {A : Type 0} (P : A → Type 0) (xs : List A) (i : ℕ) (x : A) → i < length xs → x ≡ get_or xs i x → Before P xs i → P x → Before P xs (i + 1)
before_next P xs i x h e before p k y l g = elim (cases_eq k i) [
  | inl here ↦ subst P (some_is x y (sym (item_at xs i x h e) ∙ ap (slice_get xs) (sym here) ∙ g)) p
  | inr other ↦ before k y (omega (arith, l, other)) g
]

of_items : (items : List CodeItem) → ((k : ℕ) (x : CodeItem) → slice_get items k ≡ Some x → ItemNumbers (plain_item x)) → AreNumbers (map plain_item items)
of_items [] h = tt
of_items (x ∷ items) h = (h 0 x refl, of_items items (λ k y g. h (suc k) y g))

pub all_items : (items : List CodeItem) (i : ℕ) → length items ≤ i → Before (λ x. ItemNumbers (plain_item x)) items i → AreNumbers (map plain_item items)
all_items items i h before = of_items items (λ k x g. (let w = slice_get_within items k x g in before k x (omega (arith, w, h)) g))

of_cases : (cases : List CodeCase) → ((k : ℕ) (x : CodeCase) → slice_get cases k ≡ Some x → OneNumbers (plain_script_case x)) → CaseNumbers (script_cases_of (plain_script_cases cases))
of_cases [] h = tt
of_cases (x ∷ cases) h = (h 0 x refl, of_cases cases (λ k y g. h (suc k) y g))

pub all_cases : (cases : List CodeCase) (i : ℕ) → length cases ≤ i → Before (λ x. OneNumbers (plain_script_case x)) cases i → CaseNumbers (script_cases_of (plain_script_cases cases))
all_cases cases i h before = of_cases cases (λ k x g. (let w = slice_get_within cases k x g in before k x (omega (arith, w, h)) g))

-- those of a list are those of its chain
pub chain_of : (items : List Item) → AreNumbers items → ChainNumbers (items_of items)
chain_of [] h = tt
chain_of (i ∷ items) h = (h.0, chain_of items h.1)

-- those of a command's item are those of its cases
pub do_numbers : (item : CodeItem) (uses : Option CodeAtom) (cases slice : List CodeCase) (join : List CodeAtom) → item ≡ Do uses cases join → slice ≡ cases → CaseNumbers (script_cases_of (plain_script_cases slice)) → ItemNumbers (plain_item item)
do_numbers item uses cases slice join e s h = subst ItemNumbers (sym (ap plain_item e ∙ plain_do uses cases join)) (subst (λ l. CaseNumbers (script_cases_of (plain_script_cases l))) s h)
