-- What a tree has for a name.
use Rattle.std.specs.Prelude.{◌≡◌, ℕ, ◌-◌, List, Option, Some, None, if◌then◌else◌}
use Rattle.std.specs.Option.{option_or}
use Rattle.std.specs.Str.{bytes_eq}
use Rattle.mz_names.specs.declared.tree.Tree.{Tree, Empty, Name', Fork'}
use Rattle.mz_names.specs.Turns.{turn}

-- the number of a name in a tree, where so many forks are left
abbrev pub found : Tree → ℕ → List ℕ → Option ℕ
found Empty left name = None
found (Name' p text number others) left name = if bytes_eq text name then Some number else found others left name
found (Fork' p unset set) left name = if turn left name then found set (left - 1) name else found unset (left - 1) name

-- what a lone name has for a name
abbrev pub alone : List ℕ → ℕ → List ℕ → Option ℕ
alone text number name = if bytes_eq text name then Some number else None

-- a name has this number in the new tree, and the others what they had
abbrev pub Puts : Tree → ℕ → List ℕ → ℕ → Tree → Type 0
Puts old left name number new = (other : List ℕ) → found new left other ≡ (if bytes_eq name other then Some number else found old left other)

-- a name has this number in the new tree if it had none
abbrev pub Adds : Tree → List ℕ → ℕ → Tree → Type 0
Adds old name number new = (other : List ℕ) → found new 512 other ≡ option_or (found old 512 other) (if bytes_eq name other then Some number else None)
