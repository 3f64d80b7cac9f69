-- The side of a fork that a name is on.
use Rattle.std.specs.Prelude.{ℕ, ◌-◌, ◌/◌, ◌%◌, ◌^◌, ◌==◌, Bool, List, slice_index}

-- the bit of a name at a fork, where so many of 512 forks are left with this one; behind a name's end each bit is unset
unfoldable pub turn : ℕ → List ℕ → Bool
turn left name = (slice_index name ((512 - left) / 8) / 2 ^ ((512 - left) % 8)) % 2 == 1
