-- What contracts see of a tape.
use Rattle.std.specs.Prelude.{ℕ, List}
use Rattle.mz_tape.specs.declared.entry.Entry.{Entry}

-- the entries, the oldest first, and how many more it takes before room is made again
pub record TapeView : Type 0 where
  pub list : List Entry
  pub spare : ℕ
