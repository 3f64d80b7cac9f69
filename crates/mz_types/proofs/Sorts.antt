-- The sorts of tokens: names, numbers, and each key and mark for itself. What a part of the grammar begins with is a list of them.
use Rattle.std.proofs.Common.{◌≡◌, ℕ, Bool, true, false, ◌==◌, IsTrue, refl, sym, ap, subst, ◌∙◌, eq-eqb}
use Rattle.mz_grammar.proofs.Readers.{Apart}
use Rattle.mz_grammar.proofs.Alternatives.{Sorts}
use Rattle.mz_token.specs.declared.token.Token.{Token}
use Rattle.mz_token.specs.declared.token.Kind.{Kind}
use Rattle.mz_token.specs.declared.token.Kind.TheVariants as kind
use Rattle.mz_types.specs.Words.{lower, upper, number, key, mark}
use Rattle.mz_types.proofs.Singles.{lower_is, upper_is, number_is, key_is, mark_is}

pub data Sort : Type 0 where
  Lower_sort : Sort
  Upper_sort : Sort
  Number_sort : Sort
  Key_sort : ℕ → Sort
  Mark_sort : ℕ → Sort

abbrev pub is_of : Sort → Token → Bool
is_of Lower_sort = lower
is_of Upper_sort = upper
is_of Number_sort = number
is_of (Key_sort n) = key n
is_of (Mark_sort n) = mark n

abbrev pub is_same : Sort → Sort → Bool
is_same Lower_sort Lower_sort = true
is_same Upper_sort Upper_sort = true
is_same Number_sort Number_sort = true
is_same (Key_sort n) (Key_sort m) = n == m
is_same (Mark_sort n) (Mark_sort m) = n == m
is_same _ _ = false

-- the sort of a token, by its kind
abbrev sort_of : Kind → Sort
sort_of kind.Lower = Lower_sort
sort_of kind.Upper = Upper_sort
sort_of (kind.Number value) = Number_sort
sort_of (kind.Key n) = Key_sort n
sort_of (kind.Mark n) = Mark_sort n

-- a token that passes the test of a sort is of it: by the kind that passes
sort_is : (s : Sort) (t : Token) → IsTrue (is_of s t) → sort_of t.kind ≡ s
sort_is Lower_sort t is = ap sort_of (lower_is t.kind is)
sort_is Upper_sort t is = ap sort_of (upper_is t.kind is)
sort_is Number_sort t is = ap sort_of (number_is t.kind is).1
sort_is (Key_sort n) t is = ap sort_of (key_is n t.kind is)
sort_is (Mark_sort n) t is = ap sort_of (mark_is n t.kind is)

same_self : (s : Sort) → is_same s s ≡ true
same_self Lower_sort = refl
same_self Upper_sort = refl
same_self Number_sort = refl
same_self (Key_sort n) = eq-eqb n n refl
same_self (Mark_sort n) = eq-eqb n n refl

-- a token of two sorts would make them the same
pub two_sorts : (s r : Sort) → is_same s r ≡ false → Apart (is_of s) (is_of r)
two_sorts s r other t is = go (is_of r t) refl
  where
    go : (b : Bool) → is_of r t ≡ b → b ≡ false
    go true also = let one : s ≡ r = sym (sort_is s t is) ∙ sort_is r t also in sym (subst (λ q. is_same s q ≡ true) one (same_self s)) ∙ other
    go false also = refl

abbrev pub sorts : Sorts Token Sort
sorts = record { test = is_of; same = is_same; apart = two_sorts }
