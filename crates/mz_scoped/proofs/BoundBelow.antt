-- The names below a number are bound.
use Rattle.std.proofs.Common.{◌≡◌, ℕ, zero, suc, ◌+◌, ◌<◌, ◌≤◌, Bool, true, false, ◌||◌, List, [], ◌∷◌, ◌++◌, map, length, None, refl, arith, ⊎_elim}
use Rattle.std.specs.Prelude.{◌==◌}
use Rattle.std.specs.List.{list_any, range_with_len}
use Rattle.std.proofs.lemmas.Bool.{eq-eqb, cases_eq}
use Rattle.mz_scope.specs.Syntax.{Word}
use Rattle.mz_scope.specs.Names.{numbered}
use Rattle.mz_tree.specs.Scoped.{Bound, IsBound, names_below}
use Rattle.mz_scoped.proofs.Grounds.{AreIn}
use Rattle.mz_scoped.proofs.FirstNames.{number_under, number_under_more}

-- one of two holds
either_true : (b c : Bool) → b ≡ true → (b || c) ≡ true
either_true true c is = refl
either_true false c is = cc

or_later : (b c : Bool) → c ≡ true → (b || c) ≡ true
or_later true c is = refl
or_later false c is = is

-- a number of a range is one of its names
bound_from : (a n x : ℕ) → a ≤ x → x < a + n → list_any (λ (b : Bound). b.name == x) (map (λ (k : ℕ). record { name = k; function = None }) (range_with_len a n)) ≡ true
bound_from a zero x from under = absurd (omega (arith, from, under))
bound_from a (suc n) x from under = ⊎_elim
    (λ same. either_true (a == x) _ (eq-eqb a x same))
    (λ other.
    let next : a + 1 ≤ x = omega (arith, from, other) in
    let below : x < a + 1 + n = omega (arith, under) in
    or_later (a == x) _ (bound_from (a + 1) n x next below))
    (cases_eq a x)

-- a name below a number of names
pub bound_below : (count x : ℕ) → x < count → IsBound (names_below count) x
bound_below count x under =
    let from : 0 ≤ x = omega arith in
    let below : x < 0 + count = omega (arith, under) in
    bound_from 0 count x from below

-- words that are numbered from 0 on
pub words_in : (count : ℕ) (words : List Word) → length words ≤ count → AreIn (names_below count) (numbered 0 words)
words_in count words few name x is =
    let all : 0 + length words ≤ count = omega (arith, few) in
    bound_below count x (number_under 0 words name x count all is)

-- and one name more
pub words_and_last : (count : ℕ) (words : List Word) (last : List ℕ) → length words ≤ count → AreIn (names_below (count + 1)) (numbered 0 words ++ (last, count) ∷ [])
words_and_last count words last few name x is =
    let all : 0 + length words ≤ count + 1 = omega (arith, few) in
    let more : count < count + 1 = omega arith in
    bound_below (count + 1) x (number_under_more 0 words last count name x (count + 1) all more is)
