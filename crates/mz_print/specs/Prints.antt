-- The numbers that a run printed, in the order of their tickets.
--
-- A print draws the next ticket and leaves an entry in the record of its thread: the ticket is what it saw. So tickets say in
-- which order the threads printed, and the records alone don't.
use Rattle.std.specs.Prelude.{◌≡◌, ◌<◌, ◌==◌, ℕ, List, length, Some, All, count_by, flat_map, slice_get}
use Rattle.mz_tape.specs.Tapes.{TapeView}
use Rattle.mz_tape.specs.declared.entry.Entry.{Entry}
use Rattle.mz_words.specs.declared.reports.Report.{Report}
use Rattle.mz_words.specs.Tickets.{prints_among}

-- the entries of all records, those of thread 0 first
abbrev pub all_entries : List TapeView → List Entry
all_entries = flat_map (λ part. part.list)

-- the prints of all threads, those of thread 0 first
abbrev pub prints_in : Report → List Entry
prints_in r = prints_among (all_entries r.parts)

-- the tickets of prints are the numbers from 0 on, as many as there are prints, and each was drawn once
pub record AreInOrder (prints : List Entry) : Type 0 where
  pub within : All (λ e. e.seen < length prints) prints
  pub once : (ticket : ℕ) → ticket < length prints → count_by (λ e. e.seen == ticket) prints ≡ 1

abbrev pub TicketsAreInOrder : Report → Type 0
TicketsAreInOrder r = AreInOrder (prints_in r)

-- the printed numbers, in the order in which they were printed: as many as there are prints, and the number of each print
-- stands at its ticket
pub record PrintsOf (r : Report) (numbers : List ℕ) : Type 0 where
  pub many : length numbers ≡ length (prints_in r)
  pub each : All (λ e. slice_get numbers e.seen ≡ Some e.value) (prints_in r)
