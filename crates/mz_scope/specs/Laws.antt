-- What holds of every text.
use Rattle.std.specs.Prelude.{◌≡◌, ℕ, List}
use Rattle.mz_tree.specs.Programs.{Program}
use Rattle.mz_scope.specs.Reads.{Reads}

-- a text has at most one program
abbrev pub AtMostOneProgram : Type 0
AtMostOneProgram = (bytes : List ℕ) (program other : Program) → Reads bytes program → Reads bytes other → program ≡ other
