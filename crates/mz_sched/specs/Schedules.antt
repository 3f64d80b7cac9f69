-- The one schedule: threads 0 to 63 have turns in order of number, again and again, until each has its end.
--
-- A turn is a list of events of one thread, up to the first pause, on words that are told; memory isn't refused in it. So the words
-- decide each answer, and there is no choice in a schedule.
use Rattle.std.specs.Prelude.{◌≡◌, ◌≢◌, ◌<◌, ℕ, zero, suc, true, List, [], length, Some, Bool, slice_get, slice_index_or}
use Rattle.mz_tape.specs.declared.entry.Entry.{Entry}
use Rattle.mz_words.specs.declared.code.Code.{Code}
use Rattle.mz_words.specs.declared.options.Options.{Options}
use Rattle.mz_words.specs.declared.ends.End.{End}
use Rattle.mz_words.specs.declared.ends.End.TheVariants.{Memory}
use Rattle.mz_words.specs.declared.asks.Answer.TheVariants.{Refused}
use Rattle.mz_words.specs.declared.stages.Stage.TheVariants.{Over}
use Rattle.mz_words.specs.declared.reports.Report.{Report}
use Rattle.mz_words.specs.FirstWords.{first_words}
use Rattle.mz_words.specs.Plain.{no_tape}
use Rattle.mz_words.specs.Standing.{Standing}
use Rattle.mz_words.specs.Steps.{opening}
use Rattle.mz_words.specs.Views.{WordsView}
use Rattle.mz_thread.specs.Keeping.{IsOver}
use Rattle.mz_words.specs.Turns.{Leads, Leads_nowhere, Leads_on}

-- ---- turns

-- memory isn't refused in these events
abbrev pub IsGranted : {c : Code} {o : Options} {k from : ℕ} {first : WordsView} {t : Standing} {w : WordsView} {u : Standing} {paused : Bool} → Leads c o k from first t w u paused → Type 0
IsGranted Leads_nowhere = Unit {0}
IsGranted (Leads_on w u answer spare leads may is_told) = IsGranted leads × (answer ≢ Refused)

-- all words, and for each thread where it stands and its record so far
pub record State : Type 0 where
  pub words : List ℕ
  pub thread : ℕ → Standing
  pub part : ℕ → List Entry

-- what a thread sees of a state: its own record, and the words
pub record Shows (s : State) (k : ℕ) (w : WordsView) : Type 0 where
  pub actor : w.actor ≡ k
  pub part : w.part ≡ s.part k
  pub words : w.told ≡ Some s.words

-- a whole turn of thread k: it leads to the first pause, from what the thread sees of the one state to what it sees of the other
pub record Turn (c : Code) (o : Options) (k : ℕ) (s s' : State) : Type 0 where
  pub before : WordsView
  pub after : WordsView
  pub sees : Shows s k before
  pub saw : Shows s' k after
  pub leads : Leads c o k (s.thread k).units before (s.thread k) after (s'.thread k) true
  pub granted : IsGranted leads
  pub others : (j : ℕ) → j ≢ k → (s'.thread j ≡ s.thread j) × (s'.part j ≡ s.part j)

-- ---- rounds

-- one round, up to the thread of this number: each thread below it has had its turn, or had its end before
pub data Round (c : Code) (o : Options) (first : State) : ℕ → State → Type 0 where
  Round_begins : Round c o first zero first
  Passed_over : (k : ℕ) (s : State) → Round c o first k s → IsOver (s.thread k).stage → Round c o first (suc k) s
  Had_a_turn : (k : ℕ) (s s' : State) → Round c o first k s → (IsOver (s.thread k).stage → ⊥) → Turn c o k s s' → Round c o first (suc k) s'

-- so many whole rounds
pub data Rounds (c : Code) (o : Options) (first : State) : ℕ → State → Type 0 where
  No_rounds : Rounds c o first zero first
  More_rounds : (n : ℕ) (s s' : State) → Rounds c o first n s → Round c o s 64 s' → Rounds c o first (suc n) s'

-- ---- reports

-- the state in which a schedule begins
pub record Begins (c : Code) (o : Options) (s : State) : Type 0 where
  pub words : s.words ≡ first_words o.heap c.main
  pub thread : (k : ℕ) → s.thread k ≡ opening
  pub part : (k : ℕ) → s.part k ≡ []

-- thread k in a report: its record, its end, and how many tries had failed
pub record TellsThread (s : State) (r : Report) (k : ℕ) : Type 0 where
  pub part : (slice_index_or r.parts k no_tape).list ≡ s.part k
  pub end : End
  pub ended : slice_get r.ends k ≡ Some end
  pub over : (s.thread k).stage ≡ Over end
  pub lost : slice_get r.lost k ≡ Some (s.thread k).lost

-- a report tells of a state in which each thread has its end
pub record TellsState (s : State) (r : Report) : Type 0 where
  pub parts : length r.parts ≡ 64
  pub ends : length r.ends ≡ 64
  pub lost : length r.lost ≡ 64
  pub threads : (k : ℕ) → k < 64 → TellsThread s r k
  pub words : r.words ≡ s.words

-- the report of the schedule
pub record Sched (c : Code) (o : Options) (r : Report) : Type 0 where
  pub first : State
  pub begins : Begins c o first
  pub rounds : ℕ
  pub last : State
  pub had : Rounds c o first rounds last
  pub told : TellsState last r

-- no thread of a report ended for want of memory
abbrev pub MemorySufficed : Report → Type 0
MemorySufficed r = (k : ℕ) → slice_get r.ends k ≢ Some Memory
