-- What holds of every state: the rules don't look at its order, and lead to one state but for its order.
use Rattle.std.specs.Prelude.{ℕ, List, Option}
use Rattle.mz_tree.specs.Plain.{Atom}
use Rattle.mz_tree.specs.Code.{Op}
use Rattle.mz_decl.specs.Declarations.{Decls}
use Rattle.mz_perm.specs.Lists.{Any_copy, SameUpToOrder}
use Rattle.mz_lockrule.specs.Locking.{LockRule}

-- a state to which a command leads, and which is the same as another up to order
pub record LeadsAlike (D : Decls) (R : List (Atom ℕ)) (c : ℕ) (op : Op) (uses : Option (Atom ℕ)) (T : List (Atom ℕ)) : Type 0 where
  pub after : List (Atom ℕ)
  pub leads : LockRule Any_copy D R c op uses after
  pub alike : SameUpToOrder T after

-- from states that are the same up to order a command leads to states that are
abbrev pub OrderIsFree : Type 0
OrderIsFree = (D : Decls) (R S T : List (Atom ℕ)) (c : ℕ) (op : Op) (uses : Option (Atom ℕ)) → SameUpToOrder R S → LockRule Any_copy D R c op uses T → LeadsAlike D S c op uses T

-- a command leads from a state to one state, order aside
abbrev pub LeadsToOne : Type 0
LeadsToOne = (D : Decls) (R T U : List (Atom ℕ)) (c : ℕ) (op : Op) (uses : Option (Atom ℕ)) → LockRule Any_copy D R c op uses T → LockRule Any_copy D R c op uses U → SameUpToOrder T U
