-- Names that were made, as the code collects them.
use Rattle.std.specs.Prelude.{◌≡◌, ◌⊎◌, ◌↔◌, ◌≤◌, ℕ, Bool, true, List}
use Rattle.mz_perm.specs.Lists.{In}

-- those of them that pass the test were added, and no other name
abbrev pub AddsNames : (ℕ → Bool) → List ℕ → List ℕ → Type 0
AddsNames test before after = (n : ℕ) → In n after ↔ (In n before ⊎ ((256 ≤ n) × (test n ≡ true)))
