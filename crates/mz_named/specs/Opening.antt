-- The function that a program begins with, and the configuration at a function's start.
use Rattle.std.specs.Prelude.{◌≡◌, ℕ, Bool, true, [], ◌∷◌, Some, None, codes, slice_get}
use Rattle.std.specs.Str.{bytes_eq}
use Rattle.mz_tree.specs.Programs.{Fun, Program}
use Rattle.mz_named.specs.Configurations.{Running, Config}
use Rattle.mz_named.specs.Bodies.{start}

-- whether a function is named `main`
abbrev pub is_main : Fun → Bool
is_main f = bytes_eq f.name (codes "main")

-- a function of the program with that name
pub record IsMain (p : Program) (main : Fun) : Type 0 where
  pub number : ℕ
  pub declared : slice_get p.funs number ≡ Some main
  pub named : is_main main ≡ true

-- thread 0 is at the start of the function, and nothing else is there
pub record BeginsAt (f : Fun) (w : Config) : Type 0 where
  pub empty : (n : ℕ) → w.heap.at n ≡ None
  pub threads : w.threads ≡ Running (start f []) [] ∷ []
  pub prints : w.prints ≡ []
