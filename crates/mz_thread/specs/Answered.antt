-- What an answer leaves of the room that there was, and of the count of failed tries.
use Rattle.std.specs.Prelude.{◌≡◌, ◌≤◌, ℕ, ◌+◌}
use Rattle.mz_words.specs.declared.asks.Ask.{Ask}
use Rattle.mz_words.specs.declared.asks.Ask.TheVariants.{Looks, Starts, Stops, Leaves}
use Rattle.mz_words.specs.declared.asks.Answer.{Answer}
use Rattle.mz_words.specs.declared.asks.Answer.TheVariants.{Saw, Missed}

-- the room of a thread's looks, start and end was made before; that of all else is made before each step
abbrev pub Reserves : Ask → Type 0
Reserves (Looks p until) = ⊥
Reserves (Starts p) = ⊥
Reserves Stops = ⊥
Reserves Leaves = ⊥
Reserves _ = Unit {0}

-- an entry takes one of the room that was made before, and where room is made for a step, it leaves one
abbrev pub LeavesRoom : Ask → Answer → ℕ → ℕ → Type 0
LeavesRoom (Looks p until) (Saw n) old new = new + 1 ≡ old
LeavesRoom (Starts p) (Saw n) old new = new + 1 ≡ old
LeavesRoom Stops (Saw n) old new = new + 1 ≡ old
LeavesRoom Leaves (Saw n) old new = new + 1 ≡ old
LeavesRoom _ (Saw n) old new = 1 ≤ new
LeavesRoom _ _ old new = old ≤ new

-- how many tries have failed since the last entry, after an answer
abbrev pub lost_after : Ask → Answer → ℕ → ℕ
lost_after a (Saw n) lost = 0
lost_after a Missed lost = lost + 1
lost_after a answer lost = lost
