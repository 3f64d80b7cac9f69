-- What a question finds.
use Rattle.std.specs.Prelude.{◌≡◌, ◌<◌, ◌≤◌, ℕ, List, Option, Some, None, slice_get}
use Rattle.mz_tree.specs.Plain.{Atom}
use Rattle.mz_tree.specs.View.{plain_ty}
use Rattle.mz_index.specs.Finding.{InClass}
use Rattle.mz_index.specs.Tests.{Test, Passes, Alike_test, Block_test, Block_of_test, Variety_test, Function_test, Lock_test, Any_test}
use Rattle.mz_index.specs.declared.test.Test.{Test as CodeTest}
use Rattle.mz_index.specs.declared.test.Test.TheVariants.{Alike, Block, BlockOf, OfVariety, AnyFunction, AnyLock, Any}

-- the program's tests, seen without memory
abbrev pub plain_test : CodeTest → Test
plain_test (Alike ty) = Alike_test (plain_ty ty)
plain_test Block = Block_test
plain_test (BlockOf con) = Block_of_test con
plain_test (OfVariety number) = Variety_test number
plain_test AnyFunction = Function_test
plain_test AnyLock = Lock_test
plain_test Any = Any_test

-- at or behind `from`, this is the least place of a permission of a name of x's class and at a type that passes
pub record IsFrom (R : List (Atom ℕ)) (x from : ℕ) (test : Test) (n : ℕ) : Type 0 where
  pub at_least : from ≤ n
  pub one : Atom ℕ
  pub stands : slice_get R n ≡ Some one
  pub fits : InClass R x (Passes R test) one
  pub before : (k : ℕ) (b : Atom ℕ) → from ≤ k → k < n → slice_get R k ≡ Some b → InClass R x (Passes R test) b → ⊥

-- that place, or none where there is no such place
abbrev pub FirstFrom : List (Atom ℕ) → ℕ → ℕ → Test → Option ℕ → Type 0
FirstFrom R x from test None = (k : ℕ) (b : Atom ℕ) → from ≤ k → slice_get R k ≡ Some b → InClass R x (Passes R test) b → ⊥
FirstFrom R x from test (Some n) = IsFrom R x from test n
