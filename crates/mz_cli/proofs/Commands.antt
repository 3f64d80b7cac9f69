-- Commands that go by kinds, and the kinds after them.
use Rattle.std.proofs.Common.{◌≡◌, ◌⊎◌, inl, inr, ℕ, ◌+◌, List, [], ◌∷◌, ◌++◌, length, slice_get, Option, Some, None, Bool, true, false, refl, sym, subst, length-append, if◌then◌else◌}
use Rattle.std.specs.Str.{bytes_eq}
use Rattle.mz_tree.specs.Code.{Command, The_command}
use Rattle.mz_scope.specs.Names.{Names, find}
use Rattle.mz_cli.proofs.Places.{stays}
use Rattle.mz_cli.proofs.NameKinds.{NameKind, Cell_kind, Kinds, Gives, AllGive}

-- ---- lists of kinds

-- the last stands at the end
pub at_end : {X : Type 0} (xs : List X) (x : X) (i : ℕ) → i ≡ length xs → slice_get (xs ++ x ∷ []) i ≡ Some x
at_end [] x i is = rw is refl
at_end (y ∷ xs) x i is = rw is (at_end xs x (length xs) refl)

pub one_longer : {X : Type 0} (xs : List X) (x : X) → length (xs ++ x ∷ []) ≡ length xs + 1
one_longer xs x = length-append xs (x ∷ [])

-- ---- commands

-- the command has the next number and gives its name this kind
abbrev pub GivesAt : Kinds → Command → NameKind → Type 0
GivesAt kinds (The_command to op place) kind = (to ≡ length kinds) × Gives kinds op kind

abbrev pub Ends : Kinds → List Command → Kinds → Type 0
Ends kinds [] end = end ≡ kinds
Ends kinds (c ∷ commands) end = (kind : NameKind) × GivesAt kinds c kind × Ends (kinds ++ kind ∷ []) commands end

-- one list after another
ends_more : (kinds mid end : Kinds) (one others : List Command) → Ends kinds one mid → Ends mid others end → Ends kinds (one ++ others) end
ends_more kinds mid end [] others first rest = subst (λ k. Ends k others end) first rest
ends_more kinds mid end (c ∷ one) others (kind, gives, first) rest = (kind, gives, ends_more (kinds ++ kind ∷ []) mid end one others first rest)

-- one command after a list
pub ends_one : (kinds mid : Kinds) (one : List Command) (c : Command) (kind : NameKind) → Ends kinds one mid → GivesAt mid c kind → Ends kinds (one ++ c ∷ []) (mid ++ kind ∷ [])
ends_one kinds mid one c kind first gives = ends_more kinds mid (mid ++ kind ∷ []) one (c ∷ []) first (kind, gives, refl)

-- so all commands go by kinds
pub all_give : (kinds end : Kinds) (commands : List Command) → Ends kinds commands end → AllGive kinds commands
all_give kinds end [] is = tt
all_give kinds end (The_command to op place ∷ commands) (kind, (number, gives), rest) = (kind, number, gives, all_give (kinds ++ kind ∷ []) end commands rest)

-- ---- scopes

-- each name of the scope stands for a block
abbrev pub Fits : Kinds → Names ℕ → Type 0
Fits kinds scope = (name : List ℕ) (x : ℕ) → find scope name ≡ Some x → slice_get kinds x ≡ Some Cell_kind

-- so it is where more names follow
pub fits_more : (kinds more : Kinds) (scope : Names ℕ) → Fits kinds scope → Fits (kinds ++ more) scope
fits_more kinds more scope fits name x found = stays kinds more x Cell_kind (fits name x found)

alone : (b : Bool) (y x : ℕ) → (if b then Some y else None) ≡ Some x → x ≡ y
alone true y x is = cc
alone false y x is = cc

either : (b : Bool) (u x y : ℕ) (more less : Option ℕ) → (more ≡ Some x → (less ≡ Some x) ⊎ (x ≡ y)) → (if b then Some u else more) ≡ Some x → ((if b then Some u else less) ≡ Some x) ⊎ (x ≡ y)
either true u x y more less rest found = inl found
either false u x y more less rest found = rest found

-- what is found with one more name is found without it, or it is that name's
find_end : (scope : Names ℕ) (bound name : List ℕ) (x y : ℕ) → find (scope ++ (bound, y) ∷ []) name ≡ Some x → (find scope name ≡ Some x) ⊎ (x ≡ y)
find_end [] bound name x y found = inr (alone (bytes_eq bound name) y x found)
find_end (one ∷ scope) bound name x y found = either (bytes_eq one.0 name) one.1 x y (find (scope ++ (bound, y) ∷ []) name) (find scope name) (find_end scope bound name x y) found

-- so a block's name may be bound
pub fits_bound : (kinds : Kinds) (scope : Names ℕ) (bound : List ℕ) (y : ℕ) → Fits kinds scope → slice_get kinds y ≡ Some Cell_kind → Fits kinds (scope ++ (bound, y) ∷ [])
fits_bound kinds scope bound y fits here name x found = elim (find_end scope bound name x y found) [ inl before ↦ fits name x before | inr same ↦ subst (λ v. slice_get kinds v ≡ Some Cell_kind) (sym same) here ]
