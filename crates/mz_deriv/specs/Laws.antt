-- What holds of every program and every derivation: which of the two answers of the check is right doesn't depend on how
-- the check goes.
use Rattle.std.specs.Prelude.{◌≡◌, ℕ, List}
use Rattle.mz_tree.specs.Plain.{Atom}
use Rattle.mz_tree.specs.Code.{Command}
use Rattle.mz_tree.specs.Programs.{Program, Fun}
use Rattle.mz_decl.specs.Declarations.{Decls}
use Rattle.mz_perm.specs.Lists.{SameUpToOrder}
use Rattle.mz_deriv.specs.Scripts.{Item}
use Rattle.mz_deriv.specs.Walks.{Walks}
use Rattle.mz_deriv.specs.Derivable.{Derivable, FunWalks}
use Rattle.mz_deriv.specs.Refused.{RefusedAt, FunRefused}
use Rattle.mz_deriv.specs.declared.fault.DerivFault.{DerivFault}

-- what is a derivation is refused nowhere
abbrev pub NoDerivationIsRefused : Type 0
NoDerivationIsRefused = (p : Program) (scripts : List (List Item)) (fault : DerivFault) → Derivable p scripts → RefusedAt p scripts fault → ⊥

-- what is refused is refused at one point
abbrev pub AtMostOneRefusal : Type 0
AtMostOneRefusal = (p : Program) (scripts : List (List Item)) (fault other : DerivFault) → RefusedAt p scripts fault → RefusedAt p scripts other → fault ≡ other

-- so of one function and its script, over any declarations
abbrev pub NoWalkOfAFunIsRefused : Type 0
NoWalkOfAFunIsRefused = (D : Decls) (f : Fun) (script : List Item) (fault : DerivFault) → FunWalks D f script → FunRefused D f script fault → ⊥

abbrev pub AtMostOneRefusalOfAFun : Type 0
AtMostOneRefusalOfAFun = (D : Decls) (f : Fun) (script : List Item) (fault other : DerivFault) → FunRefused D f script fault → FunRefused D f script other → fault ≡ other

-- a state to which a script leads from one that is the same up to order
pub record WalksAlike (D : Decls) (names : List ℕ) (R : List (Atom ℕ)) (commands : List Command) (items : List Item) (T : List (Atom ℕ)) : Type 0 where
  pub last : List (Atom ℕ)
  pub walks : Walks D names R commands items last
  pub alike : SameUpToOrder T last

-- from states that are the same up to order a script leads to states that are
abbrev pub OrderIsFree : Type 0
OrderIsFree = (D : Decls) (names : List ℕ) (R S T : List (Atom ℕ)) (commands : List Command) (items : List Item) → SameUpToOrder R S → Walks D names R commands items T → WalksAlike D names S commands items T

-- a script leads from a state to one state, order aside
abbrev pub LeadsToOne : Type 0
LeadsToOne = (D : Decls) (names : List ℕ) (R T U : List (Atom ℕ)) (commands : List Command) (items : List Item) → Walks D names R commands items T → Walks D names R commands items U → SameUpToOrder T U
