-- The first declaration of a name counts: where a name is declared without a fault it stands for this declaration, and so
-- names of a sort are apart.
use Rattle.std.proofs.Common.{◌≡◌, ℕ, zero, suc, ◌+◌, ◌<◌, ◌≤◌, Bool, true, false, if◌then◌else◌, List, [], ◌∷◌, ◌++◌, length, Option, Some, None, refl, sym, ap, subst, ◌∙◌, arith}
use Rattle.std.specs.Prelude.{◌==◌, slice_get, option_map}
use Rattle.std.specs.Str.{bytes_eq}
use Rattle.std.specs.Cmp.Lexicographic.{bytes_decides}
use Rattle.std.proofs.lemmas.Bool.{eqb-true, not-false, true≢false}
use Rattle.mz_scope.specs.Syntax.{Word}
use Rattle.mz_scope.specs.Names.{Names, find, numbered}
use Rattle.mz_scope.specs.Making.{Made}
use Rattle.mz_scope.specs.Declarations.{is_other, declares}
use Rattle.mz_tree.specs.Scoped.{Each, AreApart}
use Rattle.mz_scoped.proofs.Goes.{Goes, first_and, weakened, not_so}
use Rattle.mz_scoped.proofs.TopLists.{FoundAt, found_at}

-- no earlier declaration has the name, and there are not too many
abbrev pub IsNew : Option ℕ → ℕ → ℕ → Type 0
IsNew first number most = (is_other first number ≡ false) × ((number == most) ≡ false)

pub declares_goes : {P : Made → Type 0} (first : Option ℕ) (number most : ℕ) (name : Word) → Goes P (declares first number most name) (λ _ m. IsNew first number most × P m)
declares_goes first number most name =
    first_and _ _ (not_so (is_other first number) _ name.place)
    (weakened (λ m p. p) (λ _ m q. ((q.1.0, q.0), q.1.1)) (not_so (number == most) _ name.place))

-- the number of the first declaration is this
pub is_number : (first : Option ℕ) (number k : ℕ) → is_other first number ≡ false → first ≡ Some k → k ≡ number
is_number None number k none is = cc
is_number (Some n) number k none is =
    let same : n ≡ k = cc in
    let here : n ≡ number = eqb-true n number (not-false (n == number) none) in
    sym same ∙ here

-- ---- what is found

-- what is found here, or later on
some_if : {A : Type 0} (b : Bool) (a : A) (o : Option A) → (b ≡ false → (c : A) × (o ≡ Some c)) → (c : A) × ((if b then Some a else o) ≡ Some c)
some_if true a o later = (a, refl)
some_if false a o later = later refl

-- a name of the list stands for something
pub find_some : {A : Type 0} (names : Names A) (k : ℕ) (one : List ℕ × A) → slice_get names k ≡ Some one → (a : A) × (find names one.0 ≡ Some a)
find_some [] k one at = cc
find_some (x ∷ rest) zero one at =
    let same : x ≡ one = cc in
    let here : bytes_eq x.0 one.0 ≡ true = (bytes_decides x.0 one.0).1 (ap (λ (y : _). y.0) same) in
    some_if (bytes_eq x.0 one.0) x.1 (find rest one.0) (λ not_here. absurd (true≢false (sym here ∙ not_here)))
find_some (x ∷ rest) (suc k) one at = some_if (bytes_eq x.0 one.0) x.1 (find rest one.0) (λ _. find_some rest k one at)

-- a name that no earlier declaration has stands for what is declared here
pub first_found : {A : Type 0} (names : Names A) (number : A → ℕ) → Each (λ k (one : List ℕ × A). number one.1 ≡ k) names → (k : ℕ) (one : List ℕ × A) → slice_get names k ≡ Some one → is_other (option_map number (find names one.0)) k ≡ false
    → find names one.0 ≡ Some one.1
first_found names number numbers k one at none =
    let found : _ = find_some names k one at in
    let at_first : FoundAt names found.0 = found_at names one.0 found.0 found.1 in
    let there : number at_first.one.1 ≡ at_first.place = numbers at_first.place at_first.one at_first.there in
    let here : number found.0 ≡ k = is_number (option_map number (find names one.0)) k (number found.0) none (ap (option_map number) found.1) in
    let same_number : at_first.place ≡ k = sym there ∙ ap number at_first.value ∙ here in
    let both : Some at_first.one ≡ Some one = sym at_first.there ∙ ap (slice_get names) same_number ∙ at in
    let same : at_first.one ≡ one = cc in
    found.1 ∙ ap Some (sym at_first.value ∙ ap (λ (x : _). x.1) same)

-- names that each were declared first with their own number are apart
pub names_apart : {A : Type 0} (name : A → List ℕ) (first : List ℕ → Option ℕ) (all : List A) → ((k : ℕ) (a : A) → slice_get all k ≡ Some a → (n : ℕ) × (first (name a) ≡ Some n)) → Each (λ k a. is_other (first (name a)) k ≡ false) all
    → AreApart name all
names_apart name first all found new j k a b at_a at_b same =
    let n : _ = found j a at_a in
    let left : n.0 ≡ j = is_number (first (name a)) j n.0 (new j a at_a) n.1 in
    let right : n.0 ≡ k = is_number (first (name b)) k n.0 (new k b at_b) (ap first (sym same) ∙ n.1) in
    sym left ∙ right

-- names that stand for their own numbers are apart
pub numbers_apart : {A : Type 0} (name : A → List ℕ) (number : List ℕ → Option ℕ) (all : List A) → Each (λ k a. number (name a) ≡ Some k) all → AreApart name all
numbers_apart name number all each j k a b at_a at_b same =
    let both : Some j ≡ Some k = sym (each j a at_a) ∙ ap number same ∙ each k b at_b in
    cc

-- ---- numbers of words

-- what is found here is under the number, and so is what is found later on
under_if : (b : Bool) (here x most : ℕ) (o : Option ℕ) → (if b then Some here else o) ≡ Some x → here < most → (o ≡ Some x → x < most) → x < most
under_if true here x most o is first later =
    let same : here ≡ x = cc in
    subst (λ k. k < most) same first
under_if false here x most o is first later = later is

-- a word that is found has a number below the number of all
pub number_under : (n : ℕ) (words : List Word) (q : List ℕ) (x most : ℕ) → n + length words ≤ most → find (numbered n words) q ≡ Some x → x < most
number_under n [] q x most less is = cc
number_under n (w ∷ rest) q x most less is =
    let first : n < most = omega (arith, less) in
    let others : n + 1 + length rest ≤ most = omega (arith, less) in
    under_if (bytes_eq w.text q) n x most (find (numbered (n + 1) rest) q) is first (number_under (n + 1) rest q x most others)

-- and so it is with one more name behind them
pub number_under_more : (n : ℕ) (words : List Word) (last : List ℕ) (at : ℕ) (q : List ℕ) (x most : ℕ) → n + length words ≤ most → at < most → find (numbered n words ++ (last, at) ∷ []) q ≡ Some x → x < most
number_under_more n [] last at q x most less more is = under_if (bytes_eq last q) at x most None is more (λ none. cc)
number_under_more n (w ∷ rest) last at q x most less more is =
    let first : n < most = omega (arith, less) in
    let others : n + 1 + length rest ≤ most = omega (arith, less) in
    under_if (bytes_eq w.text q) n x most (find (numbered (n + 1) rest ++ (last, at) ∷ []) q) is first (number_under_more (n + 1) rest last at q x most others more)
