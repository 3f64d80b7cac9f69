-- Steps that were added to a script.
use Rattle.std.specs.Prelude.{◌≡◌, ◌++◌, List, ℕ}
use Rattle.mz_tree.specs.Plain.{Atom}
use Rattle.mz_decl.specs.Declarations.{Decls}
use Rattle.mz_view.specs.Steps.{Step}
use Rattle.mz_goal.specs.Leads.{Leads}

-- steps were added that lead from the one state to the other
pub record Added (D : Decls) (R : List (Atom ℕ)) (p q : List Step) (T : List (Atom ℕ)) : Type 0 where
  pub added : List Step
  pub is : q ≡ p ++ added
  pub leads : Leads D R added T
