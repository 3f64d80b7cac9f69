-- What each command does to a state, and how a command that goes on in branches begins them.
use Rattle.std.specs.Prelude.{◌≡◌, ◌≢◌, ℕ, suc, List, [], ◌∷◌, Option}
use Rattle.mz_tree.specs.Plain.{Atom}
use Rattle.mz_tree.specs.Code.{Op, Command, Body, Give_op, Take_op, New_lock_op, Acquire_op, Release_op, Spawn_op, op_of}
use Rattle.mz_decl.specs.Declarations.{Decls}
use Rattle.mz_modes.specs.Making.{Makes}
use Rattle.mz_perm.specs.Lists.{Any_copy}
use Rattle.mz_flow.specs.Commands.{PlainRule}
use Rattle.mz_flow.specs.Branches.{walked_bodies, Begins}
use Rattle.mz_adopt.specs.Adopting.{AdoptionRule}
use Rattle.mz_lockrule.specs.Locking.{LockRule}
use Rattle.mz_deriv.specs.Scripts.{Item, ScriptCases, Script_case, No_script_cases, More_script_cases, item_list}

-- the rule of each kind of command. A command that goes on in branches has none
abbrev pub Rule : Decls → List (Atom ℕ) → ℕ → Op → Option (Atom ℕ) → List (Atom ℕ) → Type 0
Rule D R c (Give_op x y) uses T = AdoptionRule Any_copy D R c (Give_op x y) uses T
Rule D R c (Take_op x y) uses T = AdoptionRule Any_copy D R c (Take_op x y) uses T
Rule D R c (New_lock_op guarded) uses T = LockRule Any_copy D R c (New_lock_op guarded) uses T
Rule D R c (Acquire_op l) uses T = LockRule Any_copy D R c (Acquire_op l) uses T
Rule D R c (Release_op l) uses T = LockRule Any_copy D R c (Release_op l) uses T
Rule D R c (Spawn_op g y) uses T = LockRule Any_copy D R c (Spawn_op g y) uses T
Rule D R c op uses T = PlainRule Any_copy D R c op uses T

-- a command leads from one state to another: its name is new, and its rule leads there
abbrev pub Does : Decls → List (Atom ℕ) → Command → Option (Atom ℕ) → List (Atom ℕ) → Type 0
Does D R command uses T = Makes (Rule D R) R command uses T

-- a branch of a command: what is known where it begins, its body, and the items of its script
pub record Branch : Type 0 where
  pub start : List (Atom ℕ)
  pub body : Body
  pub script : List Item

-- from branch k on there is a case of the script for each body that is walked, and the branch begins in a state of its own
abbrev pub BeginEach : Decls → List (Atom ℕ) → Command → Option (Atom ℕ) → ℕ → List Body → ScriptCases → List Branch → Type 0
BeginEach D R c uses k [] No_script_cases branches = branches ≡ []
BeginEach D R c uses k [] (More_script_cases case cases) branches = ⊥
BeginEach D R c uses k (body ∷ bodies) No_script_cases branches = ⊥
BeginEach D R c uses k (body ∷ bodies) (More_script_cases (Script_case fresh items) cases) branches =
    (start : List (Atom ℕ)) × (rest : List Branch) × Begins Any_copy D R c uses k fresh body start
    × (branches ≡ record { start = start; body = body; script = item_list items } ∷ rest) × BeginEach D R c uses (suc k) bodies cases rest

-- the branches in which a command goes on, with these cases of the script; there is at least one
pub record Branches (D : Decls) (R : List (Atom ℕ)) (c : Command) (uses : Option (Atom ℕ)) (cases : ScriptCases) (branches : List Branch) : Type 0 where
  pub some : walked_bodies (op_of c) uses ≢ []
  pub begin : BeginEach D R c uses 0 (walked_bodies (op_of c) uses) cases branches
