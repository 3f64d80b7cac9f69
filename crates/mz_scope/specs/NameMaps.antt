-- The code's maps from names to what they stand for.
use Rattle.std.specs.Prelude.{◌≡◌, ℕ, List, Option, Some, None, Vec, if◌then◌else◌}
use Rattle.std.specs.Ordering.{nat_cmp}
use Rattle.std.specs.Cmp.Lexicographic.{slice_cmp}
use Rattle.std.specs.Str.{bytes_eq}
use Rattle.std.specs.Option.{option_or}
use Rattle.std.specs.BTreeMap.{BTreeMap, get_by}
use Rattle.mz_scope.specs.Names.{Names, find}

module _ {A Y : Type 0} where
  -- what the map has for a name
  abbrev pub found : BTreeMap (Vec ℕ Y) A → List ℕ → Option A
  found map name = get_by (λ key. slice_cmp nat_cmp name key.items) map

  abbrev pub IsEmptyMap : BTreeMap (Vec ℕ Y) A → Type 0
  IsEmptyMap map = (name : List ℕ) → found map name ≡ None

  -- one more name, which stands for this where it didn't stand for anything before
  abbrev pub Adds : BTreeMap (Vec ℕ Y) A → List ℕ → A → BTreeMap (Vec ℕ Y) A → Type 0
  Adds old name value new = (other : List ℕ) → found new other ≡ option_or (found old other) (if bytes_eq name other then Some value else None)

  -- a name stands for this from now on
  abbrev pub Sets : BTreeMap (Vec ℕ Y) A → List ℕ → A → BTreeMap (Vec ℕ Y) A → Type 0
  Sets old name value new = (other : List ℕ) → found new other ≡ (if bytes_eq name other then Some value else found old other)

  -- the map has what the names stand for
  abbrev pub Maps : BTreeMap (Vec ℕ Y) A → Names A → Type 0
  Maps map names = (name : List ℕ) → found map name ≡ find names name
