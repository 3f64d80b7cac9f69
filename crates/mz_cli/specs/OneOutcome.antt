-- All runs of a program of the first form come to the same, whatever names their new blocks take.
use Rattle.std.specs.Prelude.{◌≡◌, ℕ, true, List}
use Rattle.mz_tree.specs.declared.types.Place.{Place}
use Rattle.mz_tree.specs.Programs.{Program}
use Rattle.mz_scope.specs.Reads.{Reads}
use Rattle.mz_named.specs.Configurations.{Config}
use Rattle.mz_cli.specs.FirstForm.{is_first_form}
use Rattle.mz_cli.specs.Running.{LeadsTo, HasEnded, StopsAt}

-- thread 0 comes to the same in both
pub record ComeToOne (w v : Config) : Type 0 where
  -- where it has ended in both, the prints are the same
  pub ends : HasEnded w 0 → HasEnded v 0 → w.prints ≡ v.prints
  -- where it has ended in one, it doesn't stop in the other
  pub no_stop : (place : Place) → HasEnded w 0 → StopsAt v 0 place → ⊥
  -- where it stops in both, it stops at one place with the same prints
  pub stops : (place other : Place) → StopsAt w 0 place → StopsAt v 0 other → (place ≡ other) × (w.prints ≡ v.prints)

-- any two runs of its thread 0 come to the same
abbrev pub AtMostOneOutcome : Type 0
AtMostOneOutcome = (bytes : List ℕ) (program : Program) (w v : Config) (reads : Reads bytes program) → is_first_form reads.surface program ≡ true → LeadsTo program w → LeadsTo program v → ComeToOne w v
