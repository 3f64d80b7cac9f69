-- What the answer yes or no says.
use Rattle.std.specs.Prelude.{Bool, true, false}

-- a yes says that it is so, and a no that it isn't
abbrev pub Says : Bool → Type 0 → Type 0
Says true P = P
Says false P = P → ⊥

-- a yes says that it isn't so, and a no that it is
abbrev pub Denies : Bool → Type 0 → Type 0
Denies true P = P → ⊥
Denies false P = P
