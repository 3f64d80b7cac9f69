-- What the code of calls and spawns answers.
use Rattle.std.specs.Prelude.{◌≡◌, ◌⊎◌, ◌++◌, ℕ, List, length, Some, slice_get, Result, Ok, Err}
use Rattle.std.specs.Borrow.{Bor}
use Rattle.mz_tree.specs.Plain.{Atom, Function_type, Has_atom}
use Rattle.mz_tree.specs.Programs.{Sig}
use Rattle.mz_tree.specs.View.{plain_atom, plain_sig}
use Rattle.mz_tree.specs.declared.types.Place.{Place}
use Rattle.mz_tree.specs.declared.program.Sig.{Sig as CodeSig}
use Rattle.mz_decl.specs.Declarations.{Decls}
use Rattle.mz_decl.specs.Signatures.{needed, at_args, given}
use Rattle.mz_modes.specs.Calling.{GivesBack}
use Rattle.mz_goal.specs.Needs.{Needs, FirstUnmet}
use Rattle.mz_elab.specs.Acting.{SignedWith, FindsFunction}
use Rattle.mz_elab.specs.Lacking.{NoneOf, NeedsOf}
use Rattle.mz_elab.specs.Sought.{IsFirstAt}
use Rattle.mz_elab.specs.declared.fault.ElabFault.{ElabFault}
use Rattle.mz_elab.specs.declared.fault.ElabFault.TheVariants.{NoPermission, Memory}

-- the first function of the callee's class with so many parameters; or there is none
abbrev pub FindsOr : Decls → List (Atom ℕ) → ℕ → ℕ → Place → Result ℕ ElabFault → Type 0
FindsOr D R callee count place (Ok at) = IsFirstAt R callee (SignedWith D count) at
FindsOr D R callee count place (Err (NoPermission other a)) = (other ≡ place) × NoneOf R callee (SignedWith D count) (plain_atom a)
FindsOr D R callee count place (Err Memory) = Unit {0}

-- a function of this signature stands at the place; of any
pub record SigAt (D : Decls) (R : List (Atom ℕ)) (at : ℕ) (sig : Sig) : Type 0 where
  pub name : ℕ
  pub number : ℕ
  pub stands : slice_get R at ≡ Some (Has_atom name (Function_type number))
  pub declared : slice_get D.sigs number ≡ Some sig

pub record SomeSigAt (D : Decls) (R : List (Atom ℕ)) (at : ℕ) : Type 0 where
  pub sig : Sig
  pub is : SigAt D R at sig

-- the goals were met; or the first of them is wanting that isn't met
abbrev pub MeetsOr : {A : Type 0} → Decls → List (Atom ℕ) → List (Atom ℕ) → Place → List (Atom ℕ) → Result A ElabFault → Type 0
MeetsOr D R goals place T (Ok done) = Needs D R goals T
MeetsOr D R goals place T (Err (NoPermission other a)) = (other ≡ place) × FirstUnmet D R goals (plain_atom a)
MeetsOr D R goals place T (Err Memory) = Unit {0}

-- the function of the callee was found, and its needs were met; or it isn't there, or one of its needs isn't met
pub record Uses (D : Decls) (R : List (Atom ℕ)) (callee : ℕ) (args : List ℕ) (sig : Sig) (T : List (Atom ℕ)) : Type 0 where
  pub found : FindsFunction D R callee (length args) sig
  pub needs : Needs D R (at_args args (needed sig.needs)) T

abbrev pub UsesOr : Decls → List (Atom ℕ) → ℕ → List ℕ → Place → List (Atom ℕ) → Result (Bor CodeSig) ElabFault → Type 0
UsesOr D R callee args place T (Ok sig) = Uses D R callee args (plain_sig sig.now) T
UsesOr D R callee args place T (Err (NoPermission other a)) = (other ≡ place) × (NoneOf R callee (SignedWith D (length args)) (plain_atom a) ⊎ NeedsOf D R callee args (plain_atom a))
UsesOr D R callee args place T (Err Memory) = Unit {0}

-- what a call gives back and gives was added
pub record ComesBack (D : Decls) (args : List ℕ) (c : ℕ) (sig : Sig) (R T : List (Atom ℕ)) : Type 0 where
  pub back : List (Atom ℕ)
  pub gives_back : GivesBack D sig.needs back
  pub new : T ≡ R ++ given args c back sig.gives
