-- A room that keeps the bytes that fit it.
use Rattle.std.specs.Prelude.{◌≡◌, ℕ, ◌+◌, List, ◌++◌, take, length, Option, Some, None, if◌then◌else◌, nat_lt, ◌||◌}
use Rattle.mz_base.specs.declared.kept.Kept.{Kept}

-- the bytes that came, told while all of them fit
abbrev pub told_by : Kept → Option (List ℕ)
told_by k = if k.full then None else Some k.bytes.items

-- bytes came: those that fit the room are kept, and it tells on only where all of them fit
pub record Keeps (old now : Kept) (came : List ℕ) : Type 0 where
  pub room : now.room ≡ old.room
  pub bytes : now.bytes.items ≡ take old.room (old.bytes.items ++ came)
  pub full : now.full ≡ (old.full || nat_lt old.room (length old.bytes.items + length came))
