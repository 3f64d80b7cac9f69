-- The raw machine: the words and where all threads stand, and the events that lead from one state to the next.
--
-- An event of a thread is an answer that its ask may get; where it makes a step, the step sees the words as they are. Any
-- thread may make the next event, so a list of events is any interleaving of the threads' steps. A state also keeps what its
-- run has made: the blocks that are complete, the threads that were started, and the prints. No thread sees these; what is
-- proved of runs speaks of them.
use Rattle.std.specs.Prelude.{◌≡◌, ◌≢◌, ◌<◌, ℕ, ◌+◌, ◌==◌, if◌then◌else◌, List, [], ◌∷◌, ◌++◌, Option, Some, None, slice_get}
use Rattle.mz_words.specs.declared.code.Act.{Act}
use Rattle.mz_words.specs.declared.code.Instr.{Instr}
use Rattle.mz_words.specs.declared.code.Code.{Code}
use Rattle.mz_words.specs.declared.options.Options.{Options}
use Rattle.mz_words.specs.declared.asks.Ask.{Ask}
use Rattle.mz_words.specs.declared.asks.Ask.TheVariants.{Prints}
use Rattle.mz_words.specs.declared.asks.Answer.{Answer}
use Rattle.mz_words.specs.declared.asks.Answer.TheVariants.{Saw}
use Rattle.mz_words.specs.declared.stages.Stage.{Stage}
use Rattle.mz_words.specs.declared.stages.Stage.TheVariants.{Making, Spawning}
use Rattle.mz_words.specs.Standing.{Standing}
use Rattle.mz_words.specs.Steps.{ask, take_step, made_words, opening}
use Rattle.mz_words.specs.Answers.{May, Agrees, moved, word_then}

-- a state. Threads have the numbers 0 to 63
pub record Raw : Type 0 where
  pub word : ℕ → ℕ
  pub thread : ℕ → Standing
  -- how many words each complete block has, by the place of its first word: 1 for a lock
  pub blocks : ℕ → Option ℕ
  -- the numbers of the threads that were told that they may start, in that order. Number 0 is the first
  pub born : List ℕ
  -- the numbers that were printed, in order
  pub prints : List ℕ

-- the place and the number of words of the block that an answer completes: its last word is stored
abbrev pub completed_by : Act → ℕ → ℕ → Option (ℕ × ℕ)
completed_by a base i = if i + 1 == made_words a then Some (base, made_words a) else None

abbrev pub completed_at : Stage → Option Instr → Answer → Option (ℕ × ℕ)
completed_at (Making base i) (Some instr) (Saw n) = completed_by instr.act base i
completed_at stage a answer = None

-- the complete blocks with one more
abbrev pub blocks_then : Option (ℕ × ℕ) → (ℕ → Option ℕ) → ℕ → Option ℕ
blocks_then None blocks b = blocks b
blocks_then (Some c) blocks b = if c.0 == b then Some c.1 else blocks b

-- the thread that an answer tells to start: that of a spawn's last step
abbrev pub born_at : Stage → Answer → List ℕ
born_at (Spawning k i) (Saw n) = if i == 3 then k ∷ [] else []
born_at stage answer = []

-- the number that an answer prints
abbrev pub printed : Ask → Answer → List ℕ
printed (Prints v) (Saw n) = v ∷ []
printed a answer = []

-- one event of thread k, with this answer
pub record Event (c : Code) (o : Options) (s : Raw) (k : ℕ) (answer : Answer) (s' : Raw) : Type 0 where
  pub number : k < 64
  pub may : May (ask c o k (s.thread k)) answer
  pub agrees : Agrees (ask c o k (s.thread k)) answer s.word
  pub words : (p : ℕ) → s'.word p ≡ word_then (moved (ask c o k (s.thread k)) answer) s.word p
  pub mine : s'.thread k ≡ take_step c o k (s.thread k) answer
  pub others : (j : ℕ) → j ≢ k → s'.thread j ≡ s.thread j
  pub blocks : (b : ℕ) → s'.blocks b ≡ blocks_then (completed_at (s.thread k).stage (slice_get c.instrs (s.thread k).at) answer) s.blocks b
  pub born : s'.born ≡ s.born ++ born_at (s.thread k).stage answer
  pub prints : s'.prints ≡ s.prints ++ printed (ask c o k (s.thread k)) answer

-- a list of events
pub data Events (c : Code) (o : Options) (first : Raw) : Raw → Type 0 where
  No_events : Events c o first first
  More_events : (s s' : Raw) (k : ℕ) (answer : Answer) → Events c o first s → Event c o s k answer s' → Events c o first s'

-- the words at the opening: the next free word is 197, the next thread number is 1, one thread is alive, and thread 0 may start
-- with `main`
abbrev pub opening_word : ℕ → ℕ → ℕ
opening_word main p = if p == 0 then 197 else if p == 1 then 1 else if p == 2 then 1 else if p == 5 then 1 else if p == 6 then main else 0

-- the state in which a run of the code begins
pub record Opens (c : Code) (s : Raw) : Type 0 where
  pub word : (p : ℕ) → s.word p ≡ opening_word c.main p
  pub thread : (k : ℕ) → s.thread k ≡ opening
  pub blocks : (b : ℕ) → s.blocks b ≡ None
  pub born : s.born ≡ 0 ∷ []
  pub prints : s.prints ≡ []
