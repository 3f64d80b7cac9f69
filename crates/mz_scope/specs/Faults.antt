-- What is wrong with the names and shapes of a source, and which fault is the first.
use Rattle.std.specs.Prelude.{◌≡◌, ◌⊎◌, ◌<◌, ◌≤◌, ℕ, List, Some, slice_get}
use Rattle.mz_scope.specs.declared.fault.Cause.{Cause}
use Rattle.mz_scope.specs.declared.fault.Cause.TheVariants.{Unknown, Twice, Shape, NotExhaustive, TooMany}
use Rattle.mz_scope.specs.declared.fault.Fault.{Fault}

-- the order of the causes at one place
abbrev pub rank : Cause → ℕ
rank Unknown = 0
rank Twice = 1
rank Shape = 2
rank NotExhaustive = 3
rank TooMany = 4

-- one fault comes before another, or stands with it: lines decide, then columns, then the order of the causes
abbrev pub IsNotAfter : Fault → Fault → Type 0
IsNotAfter a b = (a.place.line < b.place.line) ⊎ ((a.place.line ≡ b.place.line)
    × ((a.place.col < b.place.col) ⊎ ((a.place.col ≡ b.place.col) × (rank a.cause ≤ rank b.cause))))

-- it is one of these faults, and none of them comes before it
pub record IsFirst (faults : List Fault) (first : Fault) : Type 0 where
  pub number : ℕ
  pub stands : slice_get faults number ≡ Some first
  pub before : (k : ℕ) (other : Fault) → slice_get faults k ≡ Some other → IsNotAfter first other
