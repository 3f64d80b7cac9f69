-- When a raw state stands for a configuration of the named machine.
--
-- The name of a block or a lock is its address. A complete block's words agree with its cell; one that is still being made
-- has no cell. A thread's registers hold the values of its names, and the address where it is stands for what is left of its
-- bodies. Inside an instruction, until the word step that gives the named step, the named thread stands before the
-- command. A thread that was stopped by a limit leaves its named thread where it is: the named run is cut there.
use Rattle.std.specs.Prelude.{◌≡◌, ◌⊎◌, ℕ, zero, suc, ◌+◌, ◌*◌, ◌<◌, Bool, true, false, List, [], ◌∷◌, length, map, Option, Some, None, slice_get, slice_index_or}
use Rattle.mz_tree.specs.declared.types.Place.{Place}
use Rattle.mz_tree.specs.Programs.{Program}
use Rattle.mz_words.specs.declared.code.Act.TheVariants.{Jump}
use Rattle.mz_words.specs.declared.code.Instr.{Instr}
use Rattle.mz_words.specs.declared.code.Code.{Code}
use Rattle.mz_words.specs.declared.ends.End.{End}
use Rattle.mz_words.specs.declared.ends.End.TheVariants as ending
use Rattle.mz_words.specs.declared.stages.Stage.{Stage}
use Rattle.mz_words.specs.declared.stages.Stage.TheVariants.{Idle, IdleStop, IdleLive, LoadFun, LoadArg, Entering, Unmatched, Closing, Over}
use Rattle.mz_words.specs.declared.stages.Waiting.{Waiting}
use Rattle.mz_words.specs.Standing.{Standing}
use Rattle.mz_words.specs.Steps.{first_params}
use Rattle.mz_words.specs.Raw.{Raw}
use Rattle.mz_named.specs.Machine.{Value, Int_value, Block_value, Fun_value, Cell, Block_cell, Lock_cell, Environment, Level, Frame, Suspended, Thread, Running, Ended, Stopped, Rest, Config, IsFunction, start}
use Rattle.mz_lower.specs.Layout.{instr}
use Rattle.mz_lower.specs.Addresses.{StandsAt}

-- ---- values, blocks and locks

-- a number, an address or the number of a function: a word doesn't tell which
abbrev pub raw_value : Value → ℕ
raw_value (Int_value n) = n
raw_value (Block_value b) = b
raw_value (Fun_value f) = f

-- no block stands at 0, so 0 says that there is no adopter
abbrev pub raw_adopter : Option ℕ → ℕ
raw_adopter None = 0
raw_adopter (Some a) = a

abbrev pub raw_held : Bool → ℕ
raw_held true = 1
raw_held false = 0

-- how many words a cell has
abbrev pub cell_words : Cell → ℕ
cell_words (Block_cell con adopter fields) = length fields + 2
cell_words (Lock_cell held) = 1

-- the i-th word of a cell: a block has its tag, its adopter and its fields
abbrev pub cell_word : Cell → ℕ → ℕ
cell_word (Block_cell con adopter fields) zero = con + 1
cell_word (Block_cell con adopter fields) (suc zero) = raw_adopter adopter
cell_word (Block_cell con adopter fields) (suc (suc i)) = slice_index_or (map raw_value fields) i 0
cell_word (Lock_cell held) i = raw_held held

-- the words of a complete block or lock agree with its cell
pub record WordsAgree (s : Raw) (b : ℕ) (cell : Cell) : Type 0 where
  pub complete : s.blocks b ≡ Some (cell_words cell)
  pub words : (i : ℕ) → i < cell_words cell → s.word (b + i) ≡ cell_word cell i

-- ---- frames

-- the registers hold the values of the environment; what isn't bound is 0 in both, and so is what is past the registers
pub record RegistersAgree (values : Environment) (regs : List ℕ) : Type 0 where
  pub agree : (m : ℕ) → slice_index_or regs m 0 ≡ raw_value (values m)

-- the address stands for what is left of a body, with what is left of each body round it; or there is a jump to one that does
pub data ComesTo (code : List Instr) (registers address : ℕ) (rest : Rest) (outer : List Level) : Type 0 where
  Comes_here : StandsAt code registers address rest outer → ComesTo code registers address rest outer
  Comes_by_jump : (end : ℕ) (place : Place) → slice_get code address ≡ Some (instr place (Jump end)) → StandsAt code registers end rest outer → ComesTo code registers address rest outer

-- the frames that wait for a call, the innermost first
pub data WaitingStand (code : List Instr) : List Waiting → List Suspended → Type 0 where
  None_wait : WaitingStand code [] []
  One_waits : (v : Waiting) (u : Suspended) (vs : List Waiting) (us : List Suspended) → RegistersAgree u.frame.env v.regs → v.to ≡ u.to → u.to < length v.regs
      → ComesTo code (length v.regs) v.at u.frame.rest u.frame.outer → WaitingStand code vs us → WaitingStand code (v ∷ vs) (u ∷ us)

-- the frames of a thread stand for these
pub record FramesStand (code : List Instr) (t : Standing) (top : Frame) (below : List Suspended) : Type 0 where
  pub regs : RegistersAgree top.env t.regs
  pub place : ComesTo code (length t.regs) t.at top.rest top.outer
  pub under : WaitingStand code t.below below

-- a thread inside a function stands for one that runs
pub record StandsRunning (code : List Instr) (t : Standing) (u : Thread) : Type 0 where
  pub top : Frame
  pub below : List Suspended
  pub is : u ≡ Running top below
  pub frames : FramesStand code t top below

-- the named thread is at the start of the function that the value is, with these arguments
pub record IsAtStart (p : Program) (callee : Value) (count : ℕ) (args : List Value) (u : Thread) : Type 0 where
  pub takes : ℕ
  pub function : IsFunction p callee takes
  pub fits : takes ≡ count
  pub few : length args ≡ count
  pub is : u ≡ Running (start function.fun args) []

-- a thread that has not made its first frame: the words `FUN` and `ARG` of its number say where its named thread stands
pub record StandsBeforeStart (p : Program) (word : ℕ → ℕ) (k : ℕ) (u : Thread) : Type 0 where
  pub callee : Value
  pub args : List Value
  pub start : IsAtStart p callee (first_params k) args u
  pub fun_word : word (6 + 3 * k) ≡ raw_value callee
  pub arg_word : (v : Value) → slice_get args 0 ≡ Some v → word (7 + 3 * k) ≡ raw_value v

-- ---- threads, by how far they are

-- the named thread is cut: it stays before the command at which thread k stands, or where it would have started
abbrev pub IsCut : List Instr → Program → (ℕ → ℕ) → ℕ → Standing → Thread → Type 0
IsCut code p word k t u = StandsRunning code t u ⊎ StandsBeforeStart p word k u

-- what an end says of the named thread: it has ended, it has stopped, or it is cut. A thread that was told to stop or had no
-- memory may be cut at either place, one that never started before its first frame, and each other one at a command
abbrev pub EndStands : List Instr → Program → (ℕ → ℕ) → ℕ → Standing → End → Thread → Type 0
EndStands code p word k t ending.Done u = u ≡ Ended
EndStands code p word k t (ending.TakeFailed place) u = u ≡ Stopped
EndStands code p word k t (ending.Arith place) u = u ≡ Stopped
EndStands code p word k t ending.NeverStarted u = StandsBeforeStart p word k u
EndStands code p word k t ending.Halted u = IsCut code p word k t u
EndStands code p word k t ending.Memory u = IsCut code p word k t u
EndStands code p word k t e u = StandsRunning code t u

-- what each stage says of the named thread
abbrev pub StageStands : List Instr → Program → (ℕ → ℕ) → ℕ → Standing → Stage → Thread → Type 0
StageStands code p word k t Idle u = StandsBeforeStart p word k u
StageStands code p word k t IdleStop u = StandsBeforeStart p word k u
StageStands code p word k t IdleLive u = StandsBeforeStart p word k u
StageStands code p word k t LoadFun u = StandsBeforeStart p word k u
StageStands code p word k t (LoadArg f) u = (q : StandsBeforeStart p word k u) × (f ≡ raw_value q.callee)
StageStands code p word k t (Entering f arg) u = (q : StandsBeforeStart p word k u) × (f ≡ raw_value q.callee) × ((v : Value) → slice_get q.args 0 ≡ Some v → arg ≡ raw_value v)
StageStands code p word k t (Closing e) u = EndStands code p word k t e u
StageStands code p word k t (Over e) u = EndStands code p word k t e u
StageStands code p word k t Unmatched u = ⊥
StageStands code p word k t stage u = StandsRunning code t u

abbrev pub ThreadStands : List Instr → Program → (ℕ → ℕ) → ℕ → Standing → Thread → Type 0
ThreadStands code p word k t u = StageStands code p word k t t.stage u

-- ---- the whole

-- thread k stands for the n-th named thread
pub record HasNamedThread (code : List Instr) (p : Program) (s : Raw) (w : Config) (n k : ℕ) : Type 0 where
  pub thread : Thread
  pub here : slice_get w.threads n ≡ Some thread
  pub stands : ThreadStands code p s.word k (s.thread k) thread

-- the state stands for the configuration
pub record StandsFor (p : Program) (c : Code) (s : Raw) (w : Config) : Type 0 where
  -- each block and lock agrees with its words, and each complete block stands for one
  pub blocks : (b : ℕ) (cell : Cell) → w.heap.at b ≡ Some cell → WordsAgree s b cell
  pub complete : (b n : ℕ) → s.blocks b ≡ Some n → (cell : Cell) × (w.heap.at b ≡ Some cell)
  -- a thread's number in the named run is its place among the threads that were started
  pub threads : (n k : ℕ) → slice_get s.born n ≡ Some k → HasNamedThread c.instrs p s w n k
  pub many : length w.threads ≡ length s.born
  pub prints : s.prints ≡ w.prints
