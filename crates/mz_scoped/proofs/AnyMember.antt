-- Whether a member passes a test, and how many do.
use Rattle.std.proofs.Common.{◌≡◌, ℕ, zero, suc, ◌+◌, Bool, true, false, cond, ◌||◌, List, [], ◌∷◌, Some, refl, subst, ◌∙◌, arith, ⊎_elim}
use Rattle.std.specs.Prelude.{slice_get}
use Rattle.std.specs.List.{list_any, count_by}
use Rattle.std.proofs.lemmas.Bool.{or_cases}
use Rattle.std.proofs.lemmas.List.Sums.{sum_by-cons}

-- one of two holds
or_first : (b c : Bool) → b ≡ true → (b || c) ≡ true
or_first true c is = refl
or_first false c is = cc

or_second : (b c : Bool) → c ≡ true → (b || c) ≡ true
or_second true c is = refl
or_second false c is = is

-- a member that passes
pub any_at : {A : Type 0} (test : A → Bool) (all : List A) (k : ℕ) (a : A) → slice_get all k ≡ Some a → test a ≡ true → list_any test all ≡ true
any_at test [] k a at is = cc
any_at test (x ∷ rest) zero a at is =
    let same : a ≡ x = cc in
    or_first (test x) (list_any test rest) (subst (λ y. test y ≡ true) same is)
any_at test (x ∷ rest) (suc k) a at is = or_second (test x) (list_any test rest) (any_at test rest k a at is)

-- a test that is passed by more
pub any_weaker : {A : Type 0} (test weaker : A → Bool) → ((a : A) → test a ≡ true → weaker a ≡ true) → (all : List A) → list_any test all ≡ true → list_any weaker all ≡ true
any_weaker test weaker follows [] any = cc
any_weaker test weaker follows (x ∷ rest) any = ⊎_elim
    (λ here. or_first (weaker x) (list_any weaker rest) (follows x here))
    (λ later. or_second (weaker x) (list_any weaker rest) (any_weaker test weaker follows rest later))
    (or_cases (test x) (list_any test rest) any)

-- ---- how many pass

-- one that doesn't pass isn't counted
counted_none : (b : Bool) (n : ℕ) → b ≡ false → n ≡ 0 → cond b 1 0 + n ≡ 0
counted_none true n not_so is = cc
counted_none false n not_so is = omega (arith, is)

-- none
pub count_none : {A : Type 0} (test : A → Bool) (all : List A) → ((k : ℕ) (a : A) → slice_get all k ≡ Some a → test a ≡ false) → count_by test all ≡ 0
count_none test [] none = refl
count_none test (x ∷ rest) none = sum_by-cons (λ a. cond (test a) 1 0) x rest ∙ counted_none (test x) (count_by test rest) (none zero x refl) (count_none test rest (λ k a at. none (suc k) a at))

-- what can't be true
none_of : (b : Bool) → (b ≡ true → ⊥) → b ≡ false
none_of true not_so = absurd (not_so refl)
none_of false not_so = refl

-- one passes, here or later on
counted_one : (b : Bool) (n : ℕ) → (b ≡ true → n ≡ 0) → (b ≡ false → n ≡ 1) → cond b 1 0 + n ≡ 1
counted_one true n here later =
    let none : n ≡ 0 = here refl in
    omega (arith, none)
counted_one false n here later =
    let one : n ≡ 1 = later refl in
    omega (arith, one)

-- not here, and so later on
in_rest : (b c : Bool) → b ≡ false → (b || c) ≡ true → c ≡ true
in_rest true c not_so any = cc
in_rest false c not_so any = any

-- just one, where some member passes and no other does
pub count_one : {A : Type 0} (test : A → Bool) (all : List A) → list_any test all ≡ true → ((j k : ℕ) (a b : A) → slice_get all j ≡ Some a → slice_get all k ≡ Some b → test a ≡ true → test b ≡ true → j ≡ k) → count_by test all ≡ 1
count_one test [] any same = cc
count_one test (x ∷ rest) any same = sum_by-cons (λ a. cond (test a) 1 0) x rest ∙ counted_one (test x) (count_by test rest)
    (λ is. count_none test rest (λ k a at. none_of (test a) (λ so.
    let both : zero ≡ suc k = same zero (suc k) x a refl at is so in
    omega (arith, both))))
    (λ is. count_one test rest (in_rest (test x) (list_any test rest) is any) (λ j k a b at_a at_b so_a so_b.
    let both : suc j ≡ suc k = same (suc j) (suc k) a b at_a at_b so_a so_b in
    omega (arith, both)))
