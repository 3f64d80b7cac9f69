-- The names of a function while its body is made, and how the source spells them in the end: a spelling that is given stays.
use Rattle.std.proofs.Common.{◌≡◌, ◌≢◌, ℕ, suc, ◌+◌, List, [], ◌∷◌, ◌++◌, map, length, Some, slice_get, refl, sym, ap, ◌∙◌, subst, arith}
use Rattle.mz_tree.specs.declared.types.Place.{Place}
use Rattle.mz_tree.specs.Code.{Op}
use Rattle.mz_scope.specs.Making.{CoreName, Made, Came, Came_to, Part, goes_on, ◌>>=◌, add_command}
use Rattle.mz_scope.specs.Bodies.{with_last_spelled}
use Rattle.mz_scoped.proofs.Goes.{value_in, made_in}

-- names that have a spelling have it in the end, too
abbrev pub Spells : List CoreName → List (List ℕ) → Type 0
Spells [] spelling = Unit {0}
Spells (n ∷ rest) [] = ⊥
Spells (n ∷ rest) (text ∷ spelling) = (n.spelling ≢ [] → text ≡ n.spelling) × Spells rest spelling

-- so it is of names at their end
pub spells_all : (names : List CoreName) → Spells names (map (λ (n : CoreName). n.spelling) names)
spells_all [] = tt
spells_all (n ∷ rest) = (λ some. refl, spells_all rest)

-- and before another name
pub spells_before : (names : List CoreName) (c : CoreName) (spelling : List (List ℕ)) → Spells (names ++ c ∷ []) spelling → Spells names spelling
spells_before [] c spelling all = tt
spells_before (n ∷ rest) c [] all = absurd all
spells_before (n ∷ rest) c (text ∷ spelling) all = (all.0, spells_before rest c spelling all.1)

-- the last name's spelling stands at its place
pub spells_last : (names : List CoreName) (c : CoreName) (spelling : List (List ℕ)) → Spells (names ++ c ∷ []) spelling → c.spelling ≢ [] → slice_get spelling (length names) ≡ Some c.spelling
spells_last [] c [] all some = absurd all
spells_last [] c (text ∷ spelling) all some = ap Some (all.0 some)
spells_last (n ∷ rest) c [] all some = absurd all
spells_last (n ∷ rest) c (text ∷ spelling) all some = spells_last rest c spelling all.1 some

-- a last name without spelling asks for nothing
pub spells_blank : (names : List CoreName) (c blank : CoreName) (spelling : List (List ℕ)) → blank.spelling ≡ [] → Spells (names ++ c ∷ []) spelling → Spells (names ++ blank ∷ []) spelling
spells_blank [] c blank [] none all = absurd all
spells_blank [] c blank (text ∷ spelling) none all = (λ some. absurd (some none), tt)
spells_blank (n ∷ rest) c blank [] none all = absurd all
spells_blank (n ∷ rest) c blank (text ∷ spelling) none all = (all.0, spells_blank rest c blank spelling none all.1)

-- ---- the last name

-- a number is that of the last name, which has no spelling yet
pub record IsLast (n : ℕ) (names : List CoreName) : Type 0 where
  pub before : List CoreName
  pub place : Place
  pub names_are : names ≡ before ++ record { spelling = []; place = place } ∷ []
  pub number : n ≡ length before

-- the last name gets its spelling
pub spelled_last : (text : List ℕ) (names : List CoreName) (c : CoreName) → with_last_spelled text (names ++ c ∷ []) ≡ names ++ record c { spelling = text } ∷ []
spelled_last text [] c = refl
spelled_last text (n ∷ []) c = refl
spelled_last text (n ∷ m ∷ rest) c = ap (λ l. n ∷ l) (spelled_last text (m ∷ rest) c)

-- there are as many names as before
pub spelled_length : (text : List ℕ) (names : List CoreName) → length (with_last_spelled text names) ≡ length names
spelled_length text [] = refl
spelled_length text (n ∷ []) = refl
spelled_length text (n ∷ m ∷ rest) = ap suc (spelled_length text (m ∷ rest))

-- what a last name that gets a spelling has in the end
pub last_spells : (n : ℕ) (names : List CoreName) (text : List ℕ) (spelling : List (List ℕ)) → IsLast n names → text ≢ [] → Spells (with_last_spelled text names) spelling → Spells names spelling × (slice_get spelling n ≡ Some text)
last_spells n names text spelling last some all =
    let blank : CoreName = record { spelling = []; place = last.place } in
    let named : CoreName = record { spelling = text; place = last.place } in
    let ends : Spells (last.before ++ named ∷ []) spelling = subst (λ l. Spells l spelling) (ap (with_last_spelled text) last.names_are ∙ spelled_last text last.before blank) all in
    let blank_ends : Spells (last.before ++ blank ∷ []) spelling = spells_blank last.before named blank spelling refl ends in (
      subst (λ l. Spells l spelling) (sym last.names_are) blank_ends,
      subst (λ k. slice_get spelling k ≡ Some text) (sym last.number) (spells_last last.before named spelling ends some),
    )

-- ---- parts that end with a command

-- the value of a part is the last name
pub record Ends (part : Part ℕ) : Type 0 where
  pub last : (m : Made) → IsLast (value_in (part m)) (made_in (part m)).names

-- one more name stands at the end
pub one_longer : {A : Type 0} (l : List A) (a : A) → length (l ++ a ∷ []) ≡ length l + 1
one_longer [] a = refl
one_longer (x ∷ l) a = omega (arith, one_longer l a)

-- a command does
pub ends_command : (place : Place) (op : Op) → Ends (add_command place op)
ends_command place op = record { last = λ m. record { before = m.names; place = place; names_are = refl; number = refl } }

-- a part ends so if what comes next does
pub ends_then : {A : Type 0} (part : Part A) {next : A → Part ℕ} → ((a : A) → Ends (next a)) → Ends (part >>= next)
ends_then {A = A} part {next = next} rest = record { last = λ m. on (part m) }
  where
    on : (c : Came A) → IsLast (value_in (goes_on next c)) (made_in (goes_on next c)).names
    on (Came_to a made) = (rest a).last made
