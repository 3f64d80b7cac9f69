-- Names of the source that are in scope: those that a `let` binds, and those of parameters.
use Rattle.std.proofs.Common.{◌≡◌, ◌≢◌, ℕ, zero, suc, ◌+◌, ◌<◌, ◌≤◌, Bool, true, false, if◌then◌else◌, List, [], ◌∷◌, ◌++◌, map, length, Option, Some, None, slice_get, refl, sym, subst, arith}
use Rattle.std.specs.List.{range_with_len}
use Rattle.std.specs.Str.{bytes_eq}
use Rattle.mz_tree.specs.Programs.{Program}
use Rattle.mz_scope.specs.Syntax.{Word}
use Rattle.mz_scope.specs.Names.{Names, find, numbered}
use Rattle.mz_tree.specs.Scoped.{Scope, Bound, IsBound, names_below}
use Rattle.mz_scoped.proofs.Proper.{AllOf}
use Rattle.mz_scoped.proofs.Grounds.{AreIn}
use Rattle.mz_scoped.proofs.FineCommands.{all_map, bound_more, bound_here, IsSound, IsLocal, AreLocal}

-- ---- a name behind others

-- one step along the names
last_if : (P : ℕ → Type 0) (b : Bool) (a x : ℕ) (o longer : Option ℕ) → (if b then Some a else longer) ≡ Some x → ((if b then Some a else o) ≡ Some x → P x) → (longer ≡ Some x → (o ≡ Some x → P x) → P x) → P x
last_if P true a x o longer is before later = before is
last_if P false a x o longer is before later = later is before

last_alone : (P : ℕ → Type 0) (b : Bool) (n x : ℕ) → (if b then Some n else None) ≡ Some x → P n → P x
last_alone P true n x is last =
    let same : n ≡ x = cc in
    subst P same last
last_alone P false n x is last = cc

-- what it stands for it stood for before, or it is the last
found_last : (P : ℕ → Type 0) (scope : Names ℕ) (text : List ℕ) (n : ℕ) (name : List ℕ) (x : ℕ) → find (scope ++ (text, n) ∷ []) name ≡ Some x → (find scope name ≡ Some x → P x) → P n → P x
found_last P [] text n name x is before last = last_alone P (bytes_eq text name) n x is last
found_last P (one ∷ rest) text n name x is before last = last_if P (bytes_eq one.0 name) one.1 x (find rest name) (find (rest ++ (text, n) ∷ []) name) is before (λ later more. found_last P rest text n name x later more last)

module _ (p : Program) (spelling : List (List ℕ)) where
  -- a local name is put into scope
  pub local_named : (now : Scope) (n : ℕ) (scope : Names ℕ) (text : List ℕ) (x : ℕ) → AreLocal p spelling now n scope → IsLocal p spelling now n x → AreLocal p spelling now n (scope ++ (text, x) ∷ [])
  local_named now n scope text x all is name y found = found_last (IsLocal p spelling now n) scope text x name y found (all name y) is

  -- a core name that is spelled is a local name
  pub spelled_local : (now : Scope) (n x : ℕ) (text : List ℕ) → AllOf (IsSound p spelling n) now → IsBound now x → x < n → slice_get spelling x ≡ Some text → text ≢ [] → IsLocal p spelling now n x
  spelled_local now n x text sound bound below is some = (bound, below, all_map now (λ b one same. one.1 text (subst (λ k. slice_get spelling k ≡ Some text) (sym same) is) some) sound)

  -- local names are bound
  pub local_in : (now : Scope) (n : ℕ) (scope : Names ℕ) → AreLocal p spelling now n scope → AreIn now scope
  local_in now n scope all name x found = (all name x found).0

  -- more names may have been made
  pub local_later : (now : Scope) (n more : ℕ) (scope : Names ℕ) → n ≤ more → AreLocal p spelling now n scope → AreLocal p spelling now more scope
  local_later now n more scope some all name x found =
      let one : IsLocal p spelling now n x = all name x found in
      (one.0, omega (arith, one.1), one.2)

  -- ---- parameters

  -- so many names from a number on, for which no function stands
  abbrev plain_from : ℕ → ℕ → Scope
  plain_from k count = map (λ n. record { name = n; function = None }) (range_with_len k count)

  plain_none : (k count x : ℕ) → AllOf (λ (b : Bound). b.name ≡ x → b.function ≡ None) (plain_from k count)
  plain_none k zero x = tt
  plain_none k (suc count) x = (λ same. refl, plain_none (k + 1) count x)

  plain_sound : (k count most : ℕ) → k + count ≤ most → AllOf (IsSound p spelling most) (plain_from k count)
  plain_sound k zero most few = tt
  plain_sound k (suc count) most few = ((omega (arith, few), λ text is some. refl), plain_sound (k + 1) count most (omega (arith, few)))

  -- one step along the parameters
  param_if : (b : Bool) (k x : ℕ) (o : Option ℕ) (here : Scope) (most : ℕ) → (if b then Some k else o) ≡ Some x → k < most → (o ≡ Some x → IsBound here x × (x < most)) → IsBound (record { name = k; function = None } ∷ here) x × (x < most)
  param_if true k x o here most is few later =
      let same : k ≡ x = cc in
      subst (λ y. IsBound (record { name = k; function = None } ∷ here) y × (y < most)) same (bound_here (record { name = k; function = None }) here, few)
  param_if false k x o here most is few later = (bound_more (record { name = k; function = None }) here x (later is).0, (later is).1)

  -- a parameter is one of the first names
  param_bound : (k most : ℕ) (params : List Word) (name : List ℕ) (x : ℕ) → k + length params ≤ most → find (numbered k params) name ≡ Some x → IsBound (plain_from k (length params)) x × (x < most)
  param_bound k most [] name x few is = cc
  param_bound k most (w ∷ rest) name x few is =
      param_if (bytes_eq w.text name) k x (find (numbered (k + 1) rest) name) (plain_from (k + 1) (length rest)) most is (omega (arith, few)) (λ later. param_bound (k + 1) most rest name x (omega (arith, few)) later)

  -- the parameters are local names
  pub params_local : (params : List Word) → AreLocal p spelling (names_below (length params)) (length params) (numbered 0 params)
  params_local params name x found =
      let one : IsBound (names_below (length params)) x × (x < length params) = param_bound 0 (length params) params name x (omega arith) found in
      (one.0, one.1, plain_none 0 (length params) x)

  -- and their numbers are below the next
  pub params_sound : (count : ℕ) → AllOf (IsSound p spelling count) (names_below count)
  params_sound count = plain_sound 0 count count (omega arith)

-- ---- a scope that has these names, whatever they stand for

-- each of these
abbrev pub bounds_of : Names ℕ → Scope
bounds_of scope = map (λ (one : List ℕ × ℕ). record { name = one.1; function = None }) scope

-- one step along them
in_if : (b : Bool) (a x : ℕ) (o : Option ℕ) (here : Scope) → (if b then Some a else o) ≡ Some x → (o ≡ Some x → IsBound here x) → IsBound (record { name = a; function = None } ∷ here) x
in_if true a x o here is later =
    let same : a ≡ x = cc in
    subst (λ y. IsBound (record { name = a; function = None } ∷ here) y) same (bound_here (record { name = a; function = None }) here)
in_if false a x o here is later = bound_more (record { name = a; function = None }) here x (later is)

-- they are bound
pub all_in : (scope : Names ℕ) → AreIn (bounds_of scope) scope
all_in [] name x is = cc
all_in (one ∷ rest) name x is = in_if (bytes_eq one.0 name) one.1 x (find rest name) (bounds_of rest) is (all_in rest name x)

-- the result behind them
pub result_in : (here : Scope) (scope : Names ℕ) (text : List ℕ) (n : ℕ) → AreIn here scope → AreIn (record { name = n; function = None } ∷ here) (scope ++ (text, n) ∷ [])
result_in here scope text n all name x found =
    found_last (IsBound (record { name = n; function = None } ∷ here)) scope text n name x found
    (λ before. bound_more (record { name = n; function = None }) here x (all name x before))
    (bound_here (record { name = n; function = None }) here)
