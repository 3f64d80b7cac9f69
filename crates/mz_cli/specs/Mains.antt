-- Where a program begins.
use Rattle.std.specs.Prelude.{◌≡◌, ℕ, Some, codes, slice_get}
use Rattle.mz_tree.specs.Code.{Body}
use Rattle.mz_tree.specs.Programs.{Program, Fun}

-- the body of the program's function `main`
pub record IsMain (program : Program) (body : Body) : Type 0 where
  pub number : ℕ
  pub function : Fun
  pub declared : slice_get program.funs number ≡ Some function
  pub named : function.name ≡ codes "main"
  pub same : body ≡ function.body
