-- What holds of all reports.
use Rattle.std.specs.Prelude.{◌≡◌, ◌<◌, ◌^◌, ℕ, List, length, map, Option, slice_index_or}
use Rattle.mz_tape.specs.declared.entry.Entry.{Entry}
use Rattle.mz_words.specs.declared.words.Note.{Note}
use Rattle.mz_words.specs.declared.reports.Report.{Report}
use Rattle.mz_words.specs.Interleavings.{Interleaving}
use Rattle.mz_words.specs.Plain.{no_tape}
use Rattle.mz_words.specs.Tickets.{KeepTickets}
use Rattle.mz_words.specs.Tickets.{prints_among}
use Rattle.mz_print.specs.Prints.{TicketsAreInOrder, PrintsOf}

-- a report whose tickets are in order has one list of printed numbers
abbrev pub PrintsAreOne : Type 0
PrintsAreOne = (r : Report) (xs ys : List ℕ) → TicketsAreInOrder r → PrintsOf r xs → PrintsOf r ys → xs ≡ ys

-- a report whose records interleave from words in which no ticket was drawn, by a list in which only prints touch the word of the
-- tickets: its tickets are in order, and it printed the numbers in the order of the list. Tickets go up to 2^64-1
abbrev pub ReportsPrintInOrder : Type 0
ReportsPrintInOrder = (r : Report) (h : List Entry) (notes : ℕ → Option Note) (first last : ℕ → ℕ) → length r.parts ≡ 64 → Interleaving h (λ k. (slice_index_or r.parts k no_tape).list) notes first last
    → first 4 ≡ 0 → KeepTickets h → length (prints_among h) < 2 ^ 64 → TicketsAreInOrder r × PrintsOf r (map (λ e. e.value) (prints_among h))
