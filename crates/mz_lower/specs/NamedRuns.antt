-- The run of the named machine that a list of events gives.
--
-- A command's step is that of its last word step, or of its local act where it has none; a take that fails gives its stop at its
-- load. The copy that ends a branch gives the end of the branch, and the jump behind it gives no step. The name of a new block is
-- its address.
use Rattle.std.specs.Prelude.{◌≡◌, ◌==◌, not, ℕ, ◌+◌, Bool, true, false, Option, Some, None, slice_get}
use Rattle.mz_tree.specs.Programs.{Program}
use Rattle.mz_words.specs.declared.code.Act.{Act}
use Rattle.mz_words.specs.declared.code.Act.TheVariants.{Const, Copy, Arith, New, Branch, Return, Take, NewLock, Spawn}
use Rattle.mz_words.specs.declared.code.Instr.{Instr}
use Rattle.mz_words.specs.declared.code.Code.{Code}
use Rattle.mz_words.specs.declared.options.Options.{Options}
use Rattle.mz_words.specs.declared.asks.Ask.{Ask}
use Rattle.mz_words.specs.declared.asks.Ask.TheVariants.{Frames}
use Rattle.mz_words.specs.declared.asks.Answer.{Answer}
use Rattle.mz_words.specs.declared.asks.Answer.TheVariants.{Saw, Quiet}
use Rattle.mz_words.specs.declared.stages.Stage.{Stage}
use Rattle.mz_words.specs.declared.stages.Stage.TheVariants.{Ready, Making, Taking, Spawning}
use Rattle.mz_words.specs.Standing.{Standing}
use Rattle.mz_words.specs.Steps.{reg, made_words, ask_act}
use Rattle.mz_words.specs.Raw.{Raw, Event, Events, No_events, More_events, completed_at}
use Rattle.mz_named.specs.Machine.{Cell, Config, NStep}

-- whether a local act gives a named step; a Call without a frame, and what is counted, ends the thread instead
abbrev pub local_gives : Act → Bool
local_gives (Const to value) = true
local_gives (Copy to source) = true
local_gives (Arith to operator left right) = true
local_gives (Branch test at_zero) = true
local_gives (Return source) = true
local_gives _ = false

-- a quiet answer makes a frame, or is a local act
abbrev pub quiet_gives : Ask → Act → Bool
quiet_gives (Frames n) a = true
quiet_gives _ a = local_gives a

-- whether the first word step of an instruction gives its named step
abbrev pub first_gives : Standing → Act → ℕ → Bool
first_gives t (New to con fields) n = false
first_gives t (NewLock to) n = false
first_gives t (Spawn to callee arg) n = false
first_gives t (Take to block adopter) n = not (n == reg t adopter)
first_gives t _ n = true

-- whether an answer gives a named step, by the stage and the instruction
abbrev pub gives_step_at : Code → Options → Standing → Stage → Option Instr → Answer → Bool
gives_step_at c o t Ready (Some i) Quiet = quiet_gives (ask_act c o t i.act) i.act
gives_step_at c o t Ready (Some i) (Saw n) = first_gives t i.act n
gives_step_at c o t (Making base m) (Some i) (Saw n) = m + 1 == made_words i.act
gives_step_at c o t Taking (Some i) (Saw n) = true
gives_step_at c o t (Spawning k m) (Some i) (Saw n) = m == 3
gives_step_at c o t stage i answer = false

-- whether this answer to thread k gives a named step
abbrev pub gives_step : Code → Options → Raw → ℕ → Answer → Bool
gives_step c o s k answer = gives_step_at c o (s.thread k) (s.thread k).stage (slice_get c.instrs (s.thread k).at) answer

-- the place and the number of words of the block or lock that this answer to thread k completes, if it completes one
abbrev pub completed : Code → Raw → ℕ → Answer → Option (ℕ × ℕ)
completed c s k answer = completed_at (s.thread k).stage (slice_get c.instrs (s.thread k).at) answer

-- what is completed by a step is new by name, and its name is its address
abbrev pub NamedByAddress : Option (ℕ × ℕ) → Config → Config → Type 0
NamedByAddress None w w' = Unit {0}
NamedByAddress (Some made) w w' = (w.heap.at made.0 ≡ None) × (cell : Cell) × (w'.heap.at made.0 ≡ Some cell)

-- the named steps from `start` that a list of events from `first` gives: each event gives the one step of its thread, or none
pub data NamedRun (p : Program) (c : Code) (o : Options) (first : Raw) (start : Config) : (s : Raw) → Events c o first s → Config → Type 0 where
  At_opening : NamedRun p c o first start first No_events start
  Without_step : (s s' : Raw) (w : Config) (k : ℕ) (answer : Answer) (events : Events c o first s) (event : Event c o s k answer s') → NamedRun p c o first start s events w → gives_step c o s k answer ≡ false
      → NamedRun p c o first start s' (More_events s s' k answer events event) w
  With_step : (s s' : Raw) (w w' : Config) (k n : ℕ) (answer : Answer) (events : Events c o first s) (event : Event c o s k answer s') → NamedRun p c o first start s events w → gives_step c o s k answer ≡ true
      → slice_get s.born n ≡ Some k → NStep p w n w' → NamedByAddress (completed c s k answer) w w' → NamedRun p c o first start s' (More_events s s' k answer events event) w'
