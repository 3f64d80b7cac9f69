-- The first of the places at which something stands.
use Rattle.std.specs.Prelude.{◌≡◌, ◌⊎◌, ◌<◌, ◌≤◌, ℕ, Option, Some, None}
use Rattle.mz_tree.specs.declared.types.Place.{Place}

-- a place comes before another, or is the same: lines decide, then columns
abbrev pub IsNotAfter : Place → Place → Type 0
IsNotAfter a b = (a.line < b.line) ⊎ ((a.line ≡ b.line) × (a.col ≤ b.col))

-- a place is the first at which something stands, and none means that it stands at no place
abbrev pub IsFirst : (Place → Type 0) → Option Place → Type 0
IsFirst Stands None = (place : Place) → Stands place → ⊥
IsFirst Stands (Some first) = Stands first × ((place : Place) → Stands place → IsNotAfter first place)

-- of things with numbers, something stands at one of those below a number
pub record IsBelow (At : ℕ → Place → Type 0) (n : ℕ) (place : Place) : Type 0 where
  pub k : ℕ
  pub below : k < n
  pub stands : At k place

-- of two places that may be missing, the earlier one
abbrev pub IsEarlier : Option Place → Option Place → Option Place → Type 0
IsEarlier None right earlier = earlier ≡ right
IsEarlier (Some a) None earlier = earlier ≡ Some a
IsEarlier (Some a) (Some b) earlier = ((earlier ≡ Some a) × IsNotAfter a b) ⊎ ((earlier ≡ Some b) × IsNotAfter b a)
