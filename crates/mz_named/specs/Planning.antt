-- What the code means to do with a thread, before it does it.
use Rattle.std.specs.Prelude.{◌≡◌, ℕ, List, [], ◌∷◌, ◌++◌, length, map, Some, None, Vec, slice_get}
use Rattle.std.proofs.Common.{Global}
use Rattle.mz_tree.specs.Code.{Op, Body, If_op, Match_op, Call_op, Spawn_op}
use Rattle.mz_tree.specs.Programs.{Fun, Program}
use Rattle.mz_tree.specs.View.{plain_op}
use Rattle.mz_tree.specs.declared.code.Command.{Command as CodeCommand}
use Rattle.mz_named.specs.Configurations.{Value, Int_value, Environment, Cells}
use Rattle.mz_named.specs.Bodies.{Binds, rest_of, start}
use Rattle.mz_named.specs.Operations.{Chooses, IsFunction}
use Rattle.mz_named.specs.View.{plain_value, plain_rest, plain_frame, env_of, cells_of}
use Rattle.mz_named.specs.Doing.{IsHeldUp, FailsArith, FailsTake, IsStuck, ActsOn}
use Rattle.mz_named.specs.declared.config.Value.{Value as CodeValue}
use Rattle.mz_named.specs.declared.config.Cell.{Cell as CodeCell}
use Rattle.mz_named.specs.declared.config.Rest.{Rest as CodeRest}
use Rattle.mz_named.specs.declared.config.Level.{Level as CodeLevel}
use Rattle.mz_named.specs.declared.config.Suspended.{Suspended as CodeSuspended}
use Rattle.mz_named.specs.declared.config.Frame.{Frame as CodeFrame}
use Rattle.mz_named.specs.declared.config.Thread.{Thread as CodeThread}
use Rattle.mz_named.specs.declared.config.Thread.TheVariants as thread
use Rattle.mz_named.specs.declared.plan.Plan.{Plan}
use Rattle.mz_named.specs.declared.plan.Plan.TheVariants as plan

-- the value is a function of the program with so many parameters, this one
abbrev pub IsCallee : Program → Value → ℕ → Fun → Type 0
IsCallee p v count fun = (g : IsFunction p v count) × (g.fun ≡ fun)

-- an operation that neither goes on in a body nor calls or starts a function
abbrev pub IsSimple : Op → Type 0
IsSimple (If_op _ _ _ _) = ⊥
IsSimple (Match_op _ _ _ _) = ⊥
IsSimple (Call_op _ _) = ⊥
IsSimple (Spawn_op _ _) = ⊥
IsSimple _ = Unit {0}

-- an operation without a step, that doesn't wait
pub record HasNoStep (p : Program) (at : Cells) (e : Environment) (op : Op) : Type 0 where
  pub stuck : IsStuck at e op
  pub no_choice : (body : Body) → Chooses at e op body → ⊥
  pub no_call : (callee : ℕ) (args : List ℕ) → op ≡ Call_op callee args → IsFunction p (e callee) (length args) → ⊥
  pub no_spawn : (callee arg : ℕ) → op ≡ Spawn_op callee arg → IsFunction p (e callee) 1 → ⊥

-- the command binds its value
pub record Going (cells : List CodeCell) (prints : List ℕ) (values : List CodeValue) (to : ℕ) (op : Op) (values' : List CodeValue) (cells' : List CodeCell) (prints' : List ℕ) : Type 0 where
  pub value : CodeValue
  pub acts : ActsOn cells prints values op value cells' prints'
  pub binds : Binds (env_of values) to (plain_value value) (env_of values')

-- it goes on in a body
pub record Branching (cells : List CodeCell) (values : List CodeValue) (to : ℕ) (op : Op) (level : ℕ) (rest : CodeRest) : Type 0 where
  pub body : Body
  pub chooses : Chooses (cells_of cells) (env_of values) op body
  pub begins : plain_rest rest ≡ rest_of body
  pub named : level ≡ to

-- it calls a function
pub record Calling (p : Program) (values : List CodeValue) (to : ℕ) (op : Op) (waiting : ℕ) (frame : CodeFrame) : Type 0 where
  pub callee : ℕ
  pub args : List ℕ
  pub is : op ≡ Call_op callee args
  pub function : IsFunction p (env_of values callee) (length args)
  pub begins : plain_frame frame ≡ start function.fun (map (env_of values) args)
  pub named : waiting ≡ to

-- it starts a thread
pub record Spawning (p : Program) (values : List CodeValue) (to : ℕ) (op : Op) (frame : CodeFrame) (values' : List CodeValue) : Type 0 where
  pub callee : ℕ
  pub arg : ℕ
  pub is : op ≡ Spawn_op callee arg
  pub function : IsFunction p (env_of values callee) 1
  pub begins : plain_frame frame ≡ start function.fun (env_of values arg ∷ [])
  pub binds : Binds (env_of values) to (Int_value 0) (env_of values')

-- what comes of an operation of a command that binds the name `to`; only one that binds a value at once changes anything
abbrev pub Plans : Program → List CodeCell → List ℕ → List CodeValue → ℕ → Op → Plan → List CodeCell → List ℕ → Type 0
Plans p cells prints values to op (plan.Goes values') cells' prints' = Going cells prints values to op values' cells' prints'
Plans p cells prints values to op plan.FailsArith cells' prints' = FailsArith (env_of values) op × (cells' ≡ cells) × (prints' ≡ prints)
Plans p cells prints values to op plan.FailsTake cells' prints' = FailsTake (cells_of cells) (env_of values) op × (cells' ≡ cells) × (prints' ≡ prints)
Plans p cells prints values to op (plan.Branches level rest) cells' prints' = Branching cells values to op level rest × (cells' ≡ cells) × (prints' ≡ prints)
Plans p cells prints values to op (plan.Calls waiting frame) cells' prints' = Calling p values to op waiting frame × (cells' ≡ cells) × (prints' ≡ prints)
Plans p cells prints values to op (plan.Spawns frame values') cells' prints' = Spawning p values to op frame values' × (cells' ≡ cells) × (prints' ≡ prints)
Plans p cells prints values to op plan.Waits cells' prints' = IsHeldUp (cells_of cells) (env_of values) op × (cells' ≡ cells) × (prints' ≡ prints)
Plans p cells prints values to op plan.Wrong cells' prints' = HasNoStep p (cells_of cells) (env_of values) op × (cells' ≡ cells) × (prints' ≡ prints)
Plans p cells prints values to op _ cells' prints' = ⊥

-- ---- at the end of a body

-- the frame's innermost branch is left, whose value gets a name
pub record Joining (frame : CodeFrame) (values' : List CodeValue) : Type 0 where
  pub before : List CodeLevel
  pub level : CodeLevel
  pub last : frame.outer.items ≡ before ++ level ∷ []
  pub binds : Binds (env_of frame.values) level.to (env_of frame.values frame.rest.value) (env_of values')

-- the frame's function is left, and its value gets a name of the innermost frame that waits
pub record Returning (frame : CodeFrame) (below : List CodeSuspended) (values' : List CodeValue) : Type 0 where
  pub first : frame.outer.items ≡ []
  pub before : List CodeSuspended
  pub waiting : CodeSuspended
  pub last : below ≡ before ++ waiting ∷ []
  pub binds : Binds (env_of waiting.frame.values) waiting.to (env_of frame.values frame.rest.value) (env_of values')

-- what comes of the end of a frame's body
abbrev pub Leaves : CodeFrame → List CodeSuspended → Plan → Type 0
Leaves frame below (plan.Joins values') = Joining frame values'
Leaves frame below (plan.Returns values') = Returning frame below values'
Leaves frame below plan.Ends = (frame.outer.items ≡ []) × (below ≡ [])
Leaves frame below _ = ⊥

-- ---- a running thread

-- what comes of its next command, or of the end of a body
pub data Comes (p : Program) (cells : List CodeCell) (prints : List ℕ) (f : CodeFrame) (below : List CodeSuspended) (plan : Plan) (cells' : List CodeCell) (prints' : List ℕ) : Type 0 where
  By_command : (command : CodeCommand) → slice_get f.rest.commands f.rest.next ≡ Some command → Plans p cells prints f.values command.to (plain_op command.op) plan cells' prints' → Comes p cells prints f below plan cells' prints'
  By_end : slice_get f.rest.commands f.rest.next ≡ None → Leaves f below plan → cells' ≡ cells → prints' ≡ prints → Comes p cells prints f below plan cells' prints'

-- thread k runs, and this comes of it
pub record Looks (p : Program) (cells : List CodeCell) (prints : List ℕ) (threads : List CodeThread) (k : ℕ) (plan : Plan) (cells' : List CodeCell) (prints' : List ℕ) : Type 0 where
  pub frame : CodeFrame
  pub below : Vec CodeSuspended Global
  pub here : slice_get threads k ≡ Some (thread.Running frame below)
  pub comes : Comes p cells prints frame below.items plan cells' prints'

-- what still wants memory when it is done
abbrev pub WantsMemory : Plan → Type 0
WantsMemory (plan.Branches to rest) = Unit {0}
WantsMemory (plan.Calls to frame) = Unit {0}
WantsMemory (plan.Spawns frame values) = Unit {0}
WantsMemory _ = ⊥
