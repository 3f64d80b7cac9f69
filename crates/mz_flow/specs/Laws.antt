-- What holds of every state: the rules don't look at its order, and lead to one state but for its order.
use Rattle.std.specs.Prelude.{ℕ, List, Option}
use Rattle.mz_tree.specs.Plain.{Atom}
use Rattle.mz_tree.specs.Code.{Op, Command, Body}
use Rattle.mz_decl.specs.Declarations.{Decls}
use Rattle.mz_perm.specs.Lists.{Any_copy, SameUpToOrder}
use Rattle.mz_flow.specs.Commands.{PlainRule}
use Rattle.mz_flow.specs.Branches.{Begins}

-- a state to which a relation leads, and which is the same as another up to order
pub record LeadsAlike (Leads : List (Atom ℕ) → Type 0) (T : List (Atom ℕ)) : Type 0 where
  pub after : List (Atom ℕ)
  pub leads : Leads after
  pub alike : SameUpToOrder T after

-- from states that are the same up to order a command leads to states that are
abbrev pub OrderIsFree : Type 0
OrderIsFree = (D : Decls) (R S T : List (Atom ℕ)) (c : ℕ) (op : Op) (uses : Option (Atom ℕ)) → SameUpToOrder R S → PlainRule Any_copy D R c op uses T → LeadsAlike (PlainRule Any_copy D S c op uses) T

-- a command leads from a state to one state, order aside
abbrev pub LeadsToOne : Type 0
LeadsToOne = (D : Decls) (R T U : List (Atom ℕ)) (c : ℕ) (op : Op) (uses : Option (Atom ℕ)) → PlainRule Any_copy D R c op uses T → PlainRule Any_copy D R c op uses U → SameUpToOrder T U

-- the same of branches
abbrev pub BranchOrderIsFree : Type 0
BranchOrderIsFree = (D : Decls) (R S T : List (Atom ℕ)) (command : Command) (uses : Option (Atom ℕ)) (k fresh : ℕ) (body : Body) →
    SameUpToOrder R S → Begins Any_copy D R command uses k fresh body T → LeadsAlike (Begins Any_copy D S command uses k fresh body) T

abbrev pub BranchLeadsToOne : Type 0
BranchLeadsToOne = (D : Decls) (R T U : List (Atom ℕ)) (command : Command) (uses : Option (Atom ℕ)) (k fresh : ℕ) (body other : Body) →
    Begins Any_copy D R command uses k fresh body T → Begins Any_copy D R command uses k fresh other U → SameUpToOrder T U
