-- Turns, parts of a run, records that interleave and reports are all one thing: lists of events. And what is made was stored before.
use Rattle.std.specs.Prelude.{◌≡◌, ◌≢◌, ◌<◌, ℕ, ◌+◌, ◌*◌, Bool, List, [], ◌∷◌, ◌++◌, map, length, Option, Some, slice_get, Contains}
use Rattle.mz_tape.specs.declared.entry.Entry.{Entry}
use Rattle.mz_tape.specs.declared.entry.Kind.TheVariants.{Store}
use Rattle.mz_words.specs.declared.words.Note.{Note}
use Rattle.mz_words.specs.declared.code.Act.{Act}
use Rattle.mz_words.specs.declared.code.Act.TheVariants.{New, NewLock, Spawn}
use Rattle.mz_words.specs.declared.code.Instr.{Instr}
use Rattle.mz_words.specs.declared.code.Code.{Code}
use Rattle.mz_words.specs.declared.options.Options.{Options}
use Rattle.mz_words.specs.declared.ends.End.{End}
use Rattle.mz_words.specs.declared.stages.Stage.TheVariants.{Over}
use Rattle.mz_words.specs.declared.reports.Report.{Report}
use Rattle.mz_words.specs.declared.asks.Answer.{Answer}
use Rattle.mz_words.specs.Standing.{Standing}
use Rattle.mz_words.specs.Steps.{reg, ask}
use Rattle.mz_words.specs.Answers.{May}
use Rattle.mz_words.specs.Raw.{Raw, Events, Opens, completed_at, born_at}
use Rattle.mz_words.specs.Views.{WordsView, word_in}
use Rattle.mz_words.specs.Replays.{Follows, entries}
use Rattle.mz_words.specs.Histories.{history, AllBy}
use Rattle.mz_words.specs.Interleavings.{part_of, FewActors, AllAgree, words_after, IsNoted, Interleaving}
use Rattle.mz_words.specs.Faults.{NoFault}
use Rattle.mz_words.specs.Tickets.{prints_among, KeepTickets}
use Rattle.mz_words.specs.Ran.{part_in, Ran}
use Rattle.mz_words.specs.Turns.{Leads}

-- the words that are told are these
pub record Tells (word : ℕ → ℕ) (told : Option (List ℕ)) : Type 0 where
  pub words : List ℕ
  pub are : told ≡ Some words
  pub same : (p : ℕ) → word p ≡ word_in words p

-- what thread k sees of a run: its own part of the entries, its last failed try, and the words, which are told
pub record IsSeen (c : Code) (o : Options) (first last : Raw) (events : Events c o first last) (k : ℕ) (w : WordsView) : Type 0 where
  pub actor : w.actor ≡ k
  pub part : w.part ≡ part_of k (history events)
  pub noted : (note : Note) → w.note ≡ Some note → IsNoted first.word (history events) k note
  pub told : Tells last.word w.told

-- the run goes on by events of thread k alone, which make these entries, and behind which it sees this and stands so
pub record GoesOn (c : Code) (o : Options) (first mid : Raw) (events : Events c o first mid) (k : ℕ) (w : WordsView) (t : Standing) (last : Raw) : Type 0 where
  pub turn : Events c o mid last
  pub by : AllBy k turn
  pub all : Events c o first last
  pub made : List Entry
  pub made_is : history turn ≡ made
  pub more : history all ≡ history events ++ made
  pub seen : IsSeen c o first last all k w
  pub mine : last.thread k ≡ t
  pub others : (j : ℕ) → j ≢ k → last.thread j ≡ mid.thread j
  pub parts : (j : ℕ) → j ≢ k → part_of j (history all) ≡ part_of j (history events)

-- a turn of thread k, on what it sees of a run, goes on with the run by events of thread k
abbrev pub TurnsAreEvents : Type 0
TurnsAreEvents = (c : Code) (o : Options) (k from : ℕ) (first mid : Raw) (events : Events c o first mid) (w v : WordsView) (t : Standing) (paused : Bool) → k < 64 → IsSeen c o first mid events k w
    → Leads c o k from w (mid.thread k) v t paused → (last : Raw) × GoesOn c o first mid events k v t last

-- the entries of a run interleave: their actors are threads, each saw the words before it, and they lead to the last words
pub record Interleaves (c : Code) (o : Options) (first last : Raw) (events : Events c o first last) : Type 0 where
  pub actors : FewActors (history events)
  pub agree : AllAgree first.word (history events)
  pub closing : (p : ℕ) → words_after first.word (history events) p ≡ last.word p

abbrev pub RunsInterleave : Type 0
RunsInterleave = (c : Code) (o : Options) (first last : Raw) (events : Events c o first last) → Interleaves c o first last events

-- each thread of a run is where the replay of its own part leaves it
abbrev pub PartsFollow : Type 0
PartsFollow = (c : Code) (o : Options) (first last : Raw) → Opens c first → (events : Events c o first last) → (k : ℕ) → Follows c o k (part_of k (history events)) (last.thread k)

-- events that make just these entries, in this order, lead to these words and end each thread so
pub record IsRunOf (c : Code) (o : Options) (first : Raw) (h : List Entry) (ends : ℕ → Standing) (word : ℕ → ℕ) (last : Raw) : Type 0 where
  pub events : Events c o first last
  pub made : history events ≡ h
  pub ended : (k : ℕ) → k < 64 → last.thread k ≡ ends k
  pub words : (p : ℕ) → last.word p ≡ word p

-- records that interleave are one run, which makes the entries in the order of the list, leads to the last words and ends each
-- thread as its own replay does
abbrev pub RecordsAreRuns : Type 0
RecordsAreRuns = (c : Code) (o : Options) (first : Raw) (h : List Entry) (parts : ℕ → List Entry) (notes : ℕ → Option Note) (word : ℕ → ℕ) (ends : ℕ → Standing) → Opens c first
    → Interleaving h parts notes first.word word → ((k : ℕ) → Follows c o k (parts k) (ends k)) → (last : Raw) × IsRunOf c o first h ends word last

-- events that a report tells of: they make the entries of its records, lead to its words, and end each thread as it says
pub record IsRunTold (c : Code) (o : Options) (first : Raw) (r : Report) (h : List Entry) (last : Raw) : Type 0 where
  pub events : Events c o first last
  pub made : history events ≡ h
  pub parts : (k : ℕ) → part_of k (history events) ≡ part_in r k
  pub ended : (k : ℕ) (e : End) → slice_get r.ends k ≡ Some e → (last.thread k).stage ≡ Over e
  pub lost : (k n : ℕ) → slice_get r.lost k ≡ Some n → (last.thread k).lost ≡ n
  pub words : (p : ℕ) → last.word p ≡ word_in r.words p

-- a report that is that of a run tells of a list of events from each opening of the code, whose entries are those of its list
abbrev pub ReportsAreRuns : Type 0
ReportsAreRuns = (c : Code) (o : Options) (first : Raw) (r : Report) (ran : Ran c o r) → Opens c first → (last : Raw) × IsRunTold c o first r ran.whole last

-- ---- what is made was stored before

-- the entry of a store of thread k
abbrev pub stored : ℕ → ℕ → ℕ → Entry
stored k place value = record { actor = k; place = place; kind = Store; value = value; seen = 0 }

-- the act makes a block with so many words, its tag and its adopter with them, or a lock, which is one word
abbrev pub MakesWords : Act → ℕ → Type 0
MakesWords (New to con fields) n = n ≡ length fields + 2
MakesWords (NewLock to) n = n ≡ 1
MakesWords _ n = ⊥

-- thread k stands at an act that makes so many words, and has stored each of them from this place on
pub record HasStoredWords (c : Code) (k : ℕ) (t : Standing) (part : List Entry) (place n : ℕ) : Type 0 where
  pub instr : Instr
  pub found : slice_get c.instrs t.at ≡ Some instr
  pub makes : MakesWords instr.act n
  pub each : (i : ℕ) → i < n → (value : ℕ) × Contains part (stored k (place + i) value)

-- a block is complete only where its thread has stored all its words, the last one with the entry that completes it
abbrev pub BlocksAreStored : Type 0
BlocksAreStored = (c : Code) (o : Options) (k : ℕ) (part : List Entry) (t : Standing) (answer : Answer) (place n : ℕ) → Follows c o k part t → May (ask c o k t) answer
    → completed_at t.stage (slice_get c.instrs t.at) answer ≡ Some (place, n) → HasStoredWords c k t (part ++ entries k (ask c o k t) answer) place n

-- thread k stands at a spawn, and its last two entries stored the function and the argument of thread j
pub record HasStoredStart (c : Code) (k : ℕ) (t : Standing) (part : List Entry) (j : ℕ) : Type 0 where
  pub instr : Instr
  pub found : slice_get c.instrs t.at ≡ Some instr
  pub to : ℕ
  pub callee : ℕ
  pub arg : ℕ
  pub act : instr.act ≡ Spawn to callee arg
  pub before : List Entry
  pub last : part ≡ before ++ stored k (6 + 3 * j) (reg t callee) ∷ stored k (7 + 3 * j) (reg t arg) ∷ []

-- a thread is told that it may start, by a store of 1, only where its spawner has stored its function and its argument
abbrev pub StartsAreStored : Type 0
StartsAreStored = (c : Code) (o : Options) (k : ℕ) (part : List Entry) (t : Standing) (answer : Answer) (j : ℕ) → Follows c o k part t → May (ask c o k t) answer
    → born_at t.stage answer ≡ j ∷ [] → HasStoredStart c k t part j × (entries k (ask c o k t) answer ≡ stored k (5 + 3 * j) 1 ∷ [])

-- where no state of a run is at a fault, each of its prints is at the word of tickets, and no other entry is
abbrev pub RunsKeepTickets : Type 0
RunsKeepTickets = (c : Code) (o : Options) (first last : Raw) → ((s : Raw) → Events c o first s → NoFault c o s) → (events : Events c o first last) → KeepTickets (history events)

-- a run prints the values of its print entries, in their order
abbrev pub RunsPrintTheirEntries : Type 0
RunsPrintTheirEntries = (c : Code) (o : Options) (first last : Raw) (events : Events c o first last) → last.prints ≡ first.prints ++ map (λ (e : Entry). e.value) (prints_among (history events))
