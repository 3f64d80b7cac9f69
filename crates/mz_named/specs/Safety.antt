-- What is fine and what is wrong in a configuration, and programs whose runs are fine.
use Rattle.std.specs.Prelude.{◌≡◌, ◌≢◌, ◌⊎◌, ℕ, true, List, [], ◌∷◌, Some, None, slice_get, codes}
use Rattle.std.specs.Str.{bytes_eq}
use Rattle.mz_tree.specs.Code.{Op, Command, Read_op, Write_op, Retag_op, Match_op, Give_op, Take_op, Acquire_op, op_of}
use Rattle.mz_tree.specs.Programs.{Fun, Program}
use Rattle.mz_named.specs.Configurations.{Block_value, Lock_cell, Environment, Frame, Suspended, Running, Config}
use Rattle.mz_named.specs.Bodies.{start}
use Rattle.mz_named.specs.Steps.{IsAt, NStep, NSteps}

-- the next command of thread k acquires a lock that is held
pub record Waits (w : Config) (k : ℕ) : Type 0 where
  pub frame : Frame
  pub below : List Suspended
  pub command : Command
  pub rest : List Command
  pub stands : IsAt w k frame below command rest
  pub lock : ℕ
  pub acquires : op_of command ≡ Acquire_op lock
  pub name : ℕ
  pub is : frame.env lock ≡ Block_value name
  pub held : w.heap.at name ≡ Some (Lock_cell true)

-- the block that an operation touches; that it writes
abbrev pub Touches : Environment → Op → ℕ → Type 0
Touches e (Read_op y con field) b = e y ≡ Block_value b
Touches e (Match_op y d cases giving) b = e y ≡ Block_value b
Touches e (Write_op y con field z) b = e y ≡ Block_value b
Touches e (Retag_op y old new) b = e y ≡ Block_value b
Touches e (Give_op x y) b = (e x ≡ Block_value b) ⊎ (e y ≡ Block_value b)
Touches e (Take_op x y) b = e y ≡ Block_value b
Touches e _ b = ⊥

abbrev pub WritesTo : Environment → Op → ℕ → Type 0
WritesTo e (Read_op y con field) b = ⊥
WritesTo e (Match_op y d cases giving) b = ⊥
WritesTo e op b = Touches e op b

-- two threads' next commands touch one block, and the first writes it
pub record NRace (w : Config) : Type 0 where
  pub one : ℕ
  pub two : ℕ
  pub differ : one ≢ two
  pub frame : Frame
  pub below : List Suspended
  pub command : Command
  pub rest : List Command
  pub stands : IsAt w one frame below command rest
  pub frame2 : Frame
  pub below2 : List Suspended
  pub command2 : Command
  pub rest2 : List Command
  pub stands2 : IsAt w two frame2 below2 command2 rest2
  pub block : ℕ
  pub writes : WritesTo frame.env (op_of command) block
  pub touches : Touches frame2.env (op_of command2) block

-- each thread that runs has a step, its stop included, or waits for a held lock; and there is no race
pub record IsFine (p : Program) (w : Config) : Type 0 where
  pub goes_on : (k : ℕ) (f : Frame) (below : List Suspended) → slice_get w.threads k ≡ Some (Running f below) → ((w' : Config) × NStep p w k w') ⊎ Waits w k
  pub no_race : NRace w → ⊥

-- thread 0 is at the start of `main`, and nothing else is there
pub record IsOpening (p : Program) (w : Config) : Type 0 where
  pub number : ℕ
  pub main : Fun
  pub declared : slice_get p.funs number ≡ Some main
  pub named : bytes_eq main.name (codes "main") ≡ true
  pub empty : (n : ℕ) → w.heap.at n ≡ None
  pub threads : w.threads ≡ Running (start main []) [] ∷ []
  pub prints : w.prints ≡ []

-- no list of steps from the opening leads to anything wrong
abbrev pub NamedSafe : Program → Type 0
NamedSafe p = (w w' : Config) → IsOpening p w → NSteps p w w' → IsFine p w'
