-- What the answer of a branch's state says.
use Rattle.std.specs.Prelude.{ℕ, List, Option}
use Rattle.mz_tree.specs.Plain.{Atom}
use Rattle.mz_tree.specs.Code.{Command, Body}
use Rattle.mz_decl.specs.Declarations.{Decls}
use Rattle.mz_perm.specs.Lists.{Which}
use Rattle.mz_flow.specs.Branches.{Begins}

-- branch k of a command begins in this state, with one of the bodies that are walked
abbrev pub BeginsSome : Which → Decls → List (Atom ℕ) → Command → Option (Atom ℕ) → ℕ → ℕ → List (Atom ℕ) → Type 0
BeginsSome which D R command uses k fresh S = (body : Body) × Begins which D R command uses k fresh body S
