-- What the code makes of an operation that binds a value at once.
use Rattle.std.specs.Prelude.{◌≡◌, ℕ, true, List, ◌++◌, Some, None}
use Rattle.mz_tree.specs.Code.{Op, Arith_op, Take_op, Acquire_op}
use Rattle.mz_named.specs.Configurations.{Value, Block_value, Lock_cell, Environment, Cells}
use Rattle.mz_named.specs.Operations.{ComputesTo, TakeFails, Acts, Stops}
use Rattle.mz_named.specs.View.{plain_value, env_of, cells_of}
use Rattle.mz_named.specs.declared.config.Value.{Value as CodeValue}
use Rattle.mz_named.specs.declared.config.Cell.{Cell as CodeCell}
use Rattle.mz_named.specs.declared.act.Act.{Act}
use Rattle.mz_named.specs.declared.act.Act.TheVariants.{Binds, FailsArith as ArithAct, FailsTake as TakeAct, Waits, Wrong}

-- the lock that an operation acquires is held
abbrev pub IsHeldUp : Cells → Environment → Op → Type 0
IsHeldUp at e (Acquire_op l) = (b : ℕ) × (e l ≡ Block_value b) × (at b ≡ Some (Lock_cell true))
IsHeldUp at e _ = ⊥

-- where arithmetic has no number as its result
abbrev pub FailsArith : Environment → Op → Type 0
FailsArith e (Arith_op operator x y) = ComputesTo (e x) (e y) operator None
FailsArith e _ = ⊥

-- where a block that is taken isn't its adopter's
abbrev pub FailsTake : Cells → Environment → Op → Type 0
FailsTake at e (Take_op x y) = TakeFails at (e x) (e y)
FailsTake at e _ = ⊥

-- an operation that doesn't act, nor stop its thread, nor wait
pub record IsStuck (at : Cells) (e : Environment) (op : Op) : Type 0 where
  pub no_act : (v : Value) (at' : Cells) (out : List ℕ) → Acts at e op v at' out → ⊥
  pub no_stop : Stops at e op → ⊥
  pub no_wait : IsHeldUp at e op → ⊥

-- an operation that acts at these cells, with this value
pub record ActsOn (cells : List CodeCell) (prints : List ℕ) (values : List CodeValue) (op : Op) (v : CodeValue) (cells' : List CodeCell) (prints' : List ℕ) : Type 0 where
  pub out : List ℕ
  pub acts : Acts (cells_of cells) (env_of values) op (plain_value v) (cells_of cells') out
  pub printed : prints' ≡ prints ++ out

-- what came of an operation
abbrev pub Does : List CodeCell → List ℕ → List CodeValue → Op → Act → List CodeCell → List ℕ → Type 0
Does cells prints values op (Binds v) cells' prints' = ActsOn cells prints values op v cells' prints'
Does cells prints values op ArithAct cells' prints' = FailsArith (env_of values) op × (cells' ≡ cells) × (prints' ≡ prints)
Does cells prints values op TakeAct cells' prints' = FailsTake (cells_of cells) (env_of values) op × (cells' ≡ cells) × (prints' ≡ prints)
Does cells prints values op Waits cells' prints' = IsHeldUp (cells_of cells) (env_of values) op × (cells' ≡ cells) × (prints' ≡ prints)
Does cells prints values op Wrong cells' prints' = IsStuck (cells_of cells) (env_of values) op × (cells' ≡ cells) × (prints' ≡ prints)
