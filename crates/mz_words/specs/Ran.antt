-- When a report is that of a run: each record follows the code and ends as the report says, and the records interleave to one
-- list from the words of the opening to those of the report.
use Rattle.std.specs.Prelude.{◌≡◌, ◌<◌, ℕ, ◌+◌, List, length, Option, Some, slice_get, slice_index_or}
use Rattle.mz_tape.specs.declared.entry.Entry.{Entry}
use Rattle.mz_words.specs.declared.words.Note.{Note}
use Rattle.mz_words.specs.declared.code.Act.TheVariants.{Acquire}
use Rattle.mz_words.specs.declared.code.Instr.{Instr}
use Rattle.mz_words.specs.declared.code.Code.{Code}
use Rattle.mz_words.specs.declared.options.Options.{Options}
use Rattle.mz_words.specs.declared.ends.End.{End}
use Rattle.mz_words.specs.declared.ends.End.TheVariants.{Blocked}
use Rattle.mz_words.specs.declared.stages.Stage.TheVariants.{Over}
use Rattle.mz_words.specs.declared.reports.Report.{Report}
use Rattle.mz_words.specs.Standing.{Standing}
use Rattle.mz_words.specs.Steps.{reg}
use Rattle.mz_words.specs.Raw.{opening_word}
use Rattle.mz_words.specs.Views.{word_in}
use Rattle.mz_words.specs.Plain.{no_tape}
use Rattle.mz_words.specs.Replays.{Follows}
use Rattle.mz_words.specs.Interleavings.{Interleaving}

-- the record of thread k in a report
abbrev pub part_in : Report → ℕ → List Entry
part_in r k = (slice_index_or r.parts k no_tape).list

-- the thread stands at an acquire of the lock at this address
pub record IsAtAcquire (c : Code) (t : Standing) (address : ℕ) : Type 0 where
  pub instr : Instr
  pub found : slice_get c.instrs t.at ≡ Some instr
  pub to : ℕ
  pub lock : ℕ
  pub act : instr.act ≡ Acquire to lock
  pub place : reg t lock ≡ address

-- a thread that gave up at a lock has noted it: where it stands, and when it had made all of so many entries but the closing one
pub record IsBlockedBy (c : Code) (t : Standing) (note : Option Note) (entries : ℕ) : Type 0 where
  pub last : Note
  pub noted : note ≡ Some last
  pub at_lock : IsAtAcquire c t last.place
  pub made : entries ≡ last.made + 1

-- what an end says of the note, where the thread has made so many entries with the closing one: only the end at a lock
-- speaks of it
abbrev pub EndIsNoted : Code → Standing → End → Option Note → ℕ → Type 0
EndIsNoted c t (Blocked place) last entries = IsBlockedBy c t last entries
EndIsNoted c t _ last entries = Unit {0}

-- thread k of a report: the replay of its record ends as the report says, with so many tries failed
pub record ThreadRan (c : Code) (o : Options) (r : Report) (k : ℕ) (note : Option Note) : Type 0 where
  pub standing : Standing
  pub follows : Follows c o k (part_in r k) standing
  pub end : End
  pub ended : slice_get r.ends k ≡ Some end
  pub over : standing.stage ≡ Over end
  pub lost : slice_get r.lost k ≡ Some standing.lost
  pub noted : EndIsNoted c standing end note (length (part_in r k))

-- the report is that of a run of the code
pub record Ran (c : Code) (o : Options) (r : Report) : Type 0 where
  pub parts : length r.parts ≡ 64
  pub ends : length r.ends ≡ 64
  pub lost : length r.lost ≡ 64
  pub size : length r.words ≡ o.heap
  pub whole : List Entry
  pub notes : ℕ → Option Note
  pub woven : Interleaving whole (part_in r) notes (opening_word c.main) (word_in r.words)
  pub threads : (k : ℕ) → k < 64 → ThreadRan c o r k (notes k)
