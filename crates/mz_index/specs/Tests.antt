-- What a test asks of a type.
use Rattle.std.specs.Prelude.{◌≡◌, ℕ, List}
use Rattle.mz_tree.specs.Plain.{Ty, Atom, Named_type, Function_type, Block_type, Lock_type}
use Rattle.mz_index.specs.Classes.{AreAlike}

pub data Test : Type 0 where
  -- alike to that type
  Alike_test : Ty ℕ → Test
  -- structural
  Block_test : Test
  -- structural, of that constructor
  Block_of_test : (con : ℕ) → Test
  -- that data type
  Variety_test : (data_type : ℕ) → Test
  -- a signature
  Function_test : Test
  -- of a lock
  Lock_test : Test
  -- any
  Any_test : Test

abbrev pub IsBlock : Ty ℕ → Type 0
IsBlock (Block_type con ys clause) = Unit {0}
IsBlock _ = ⊥

abbrev pub IsBlockOf : ℕ → Ty ℕ → Type 0
IsBlockOf con (Block_type k ys clause) = k ≡ con
IsBlockOf con _ = ⊥

abbrev pub IsFunction : Ty ℕ → Type 0
IsFunction (Function_type s) = Unit {0}
IsFunction _ = ⊥

abbrev pub IsLock : Ty ℕ → Type 0
IsLock (Lock_type p) = Unit {0}
IsLock _ = ⊥

-- the type passes the test, with the classes of this state
abbrev pub Passes : List (Atom ℕ) → Test → Ty ℕ → Type 0
Passes R (Alike_test t) u = AreAlike R u t
Passes R Block_test u = IsBlock u
Passes R (Block_of_test con) u = IsBlockOf con u
Passes R (Variety_test d) u = u ≡ Named_type d
Passes R Function_test u = IsFunction u
Passes R Lock_test u = IsLock u
Passes R Any_test u = Unit {0}
