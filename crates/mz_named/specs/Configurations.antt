-- Configurations of the named machine: values, blocks and locks by name, threads with frames, and the prints.
--
-- An environment is total: a name that isn't bound stands for 0, as a register holds 0 at first. A frame holds what is
-- left of the body in which it stands and of each body round it, so a branch makes no new frame. There is no limit of
-- blocks, threads or steps.
use Rattle.std.specs.Prelude.{◌≡◌, ◌≤◌, ℕ, Bool, List, Option, None}
use Rattle.mz_tree.specs.Code.{Command}

-- values; `()` is the number 0
pub data Value : Type 0 where
  Int_value : (n : ℕ) → Value
  Block_value : (b : ℕ) → Value
  Fun_value : (f : ℕ) → Value

-- what stands at a name: a block with its constructor, its adopter if it has one, and its fields; or a lock
pub data Cell : Type 0 where
  Block_cell : (con : ℕ) → (adopter : Option ℕ) → (fields : List Value) → Cell
  Lock_cell : (held : Bool) → Cell

-- the values of core names. One that isn't bound is 0, as a register is at first
abbrev pub Environment : Type 0
Environment = ℕ → Value

-- what stands at each name
abbrev pub Cells : Type 0
Cells = ℕ → Option Cell

-- a finite map: nothing stands from `limit` on
pub record Heap : Type 0 where
  pub at : Cells
  pub limit : ℕ
  pub beyond : (b : ℕ) → limit ≤ b → at b ≡ None

-- what is left of a body: commands, and the name of the body's value
pub record Rest : Type 0 where
  pub commands : List Command
  pub value : ℕ

-- a body round a branch: the name that gets the branch's value, and what is left behind it
pub record Level : Type 0 where
  pub to : ℕ
  pub after : Rest

-- a frame: the values of its names, what is left of the body in which it stands, and of each body round it
pub record Frame : Type 0 where
  pub env : Environment
  pub rest : Rest
  pub outer : List Level

-- a frame that waits for a call, whose value gets a name
pub record Suspended : Type 0 where
  pub to : ℕ
  pub frame : Frame

-- a thread: the frame in which it runs and those that wait below it, the innermost first; or it has ended, or it has
-- stopped
pub data Thread : Type 0 where
  Running : (top : Frame) → (below : List Suspended) → Thread
  Ended : Thread
  Stopped : Thread

pub record Config : Type 0 where
  pub heap : Heap
  pub threads : List Thread
  pub prints : List ℕ
