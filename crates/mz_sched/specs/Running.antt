-- What holds of plain words and 64 threads between turns.
use Rattle.mz_words.specs.declared.ends.End.{End}
use Rattle.mz_words.specs.declared.ends.End.TheVariants.{Memory}
use Rattle.mz_sched.specs.Schedules.{State, Round, Rounds}
use Rattle.mz_words.specs.declared.stages.Stage.TheVariants.{Over}
use Rattle.std.specs.Prelude.{◌≡◌, ◌⊎◌, ◌<◌, ◌≤◌, ℕ, Option, List, [], ◌∷◌, map, length, None, Some, slice_get, slice_index_or, vec_len}
use Rattle.mz_words.specs.declared.plain.PlainWords.{PlainWords}
use Rattle.mz_words.specs.declared.code.Code.{Code}
use Rattle.mz_words.specs.declared.options.Options.{Options}
use Rattle.mz_words.specs.FirstWords.{no_tries}
use Rattle.mz_words.specs.Plain.{no_tape}
use Rattle.mz_words.specs.Standing.{Standing}
use Rattle.mz_words.specs.Steps.{opening}
use Rattle.mz_words.specs.Raw.{Raw, Events, Opens, opening_word}
use Rattle.mz_words.specs.Faults.{NoFault}
use Rattle.mz_words.specs.Views.{WordsView}
use Rattle.mz_words.specs.Laws.{IsSeen}
use Rattle.mz_thread.specs.declared.thread.Thread.{Thread}
use Rattle.mz_thread.specs.Keeping.{GoesForward, Held, IsOver}
use Rattle.mz_thread.specs.Noted.{IsNoted}

-- what actor k sees of plain words, where it is its turn
abbrev pub view_at : PlainWords → ℕ → WordsView
view_at w k = record {
  size = vec_len w.words;
  actor = k;
  part = (slice_index_or w.tapes.items k no_tape).list;
  note = (slice_index_or w.tries.items k no_tries).note;
  spare = (slice_index_or w.tapes.items k no_tape).spare;
  lost = (slice_index_or w.tries.items k no_tries).lost;
  told = Some w.words.items;
}

-- the state in which the code opens
abbrev pub first_state : Code → Raw
first_state c = record { word = opening_word c.main; thread = λ k. opening; blocks = λ b. None; born = 0 ∷ []; prints = [] }

-- what a schedule stands on: targets lie ahead, no run comes to a fault, and the limits that turns need
pub record IsRunnable (c : Code) (o : Options) : Type 0 where
  pub forward : GoesForward c
  pub faultless : (first s : Raw) → Opens c first → Events c o first s → NoFault c o s
  pub steps : o.steps ≤ 1000000
  pub tries : 0 < o.tries
  pub few_tries : o.tries ≤ 4294967295
  pub heap : 1024 ≤ o.heap
  pub small : o.heap ≤ 16777216

-- thread k stands so
pub record StandsAt (threads : List Thread) (k : ℕ) (t : Standing) : Type 0 where
  pub thread : Thread
  pub found : slice_get threads k ≡ Some thread
  pub number : thread.actor ≡ k
  pub stands : thread.machine ≡ t

-- thread k may have its next turn
pub record IsReady (c : Code) (o : Options) (last : Raw) (events : Events c o (first_state c) last) (words : PlainWords) (threads : List Thread) (k : ℕ) : Type 0 where
  pub seen : IsSeen c o (first_state c) last events k (view_at words k)
  pub stands : StandsAt threads k (last.thread k)
  pub held : Held (last.thread k) (view_at words k).lost (view_at words k).spare
  pub noted : IsNoted c (last.thread k) (view_at words k).note (length (view_at words k).part)

-- the words and the threads are those of a run
pub record Running (c : Code) (o : Options) (words : PlainWords) (threads : List Thread) : Type 0 where
  pub last : Raw
  pub events : Events c o (first_state c) last
  pub size : vec_len words.words ≡ o.heap
  pub many : length threads ≡ 64
  pub each : (k : ℕ) → k < 64 → IsReady c o last events words threads k

-- threads that haven't started, by their numbers
pub record AreFresh (threads : List Thread) : Type 0 where
  pub many : length threads ≡ 64
  pub each : (k : ℕ) (t : Thread) → slice_get threads k ≡ Some t → (t.actor ≡ k) × (t.machine ≡ opening)

-- thread k has its end
pub record IsOverAt (threads : List Thread) (k : ℕ) : Type 0 where
  pub thread : Thread
  pub found : slice_get threads k ≡ Some thread
  pub over : IsOver thread.machine.stage

-- each thread has its end
abbrev pub AllOver : List Thread → Type 0
AllOver threads = (k : ℕ) (t : Thread) → slice_get threads k ≡ Some t → IsOver t.machine.stage

-- each thread's end, in their order
abbrev pub EndsOf : List Thread → List End → Type 0
EndsOf threads ends = map (λ (e : End). Over e) ends ≡ map (λ (t : Thread). t.machine.stage) threads

-- and how many of its tries failed
abbrev pub LostOf : List Thread → List ℕ → Type 0
LostOf threads lost = lost ≡ map (λ (t : Thread). t.machine.lost) threads

-- where a thread stands. One that there isn't stands as at the opening
abbrev pub standing_of : Option Thread → Standing
standing_of None = opening
standing_of (Some t) = t.machine

-- the state of a schedule that plain words and threads are in
abbrev pub state_of : PlainWords → List Thread → State
state_of w threads = record { words = w.words.items; thread = λ k. standing_of (slice_get threads k); part = λ k. (slice_index_or w.tapes.items k no_tape).list }

-- a thread has ended for want of memory
pub record HasRefusal (threads : List Thread) : Type 0 where
  pub number : ℕ
  pub thread : Thread
  pub found : slice_get threads number ≡ Some thread
  pub over : thread.machine.stage ≡ Over Memory

-- in a round of the schedule, up to thread k, unless memory was refused
abbrev pub InRound : Code → Options → State → ℕ → PlainWords → List Thread → Type 0
InRound c o first k words threads = Round c o first k (state_of words threads) ⊎ HasRefusal threads

-- behind whole rounds of the schedule, unless memory was refused
abbrev pub AfterRounds : Code → Options → State → PlainWords → List Thread → Type 0
AfterRounds c o first words threads = ((n : ℕ) × Rounds c o first n (state_of words threads)) ⊎ HasRefusal threads
