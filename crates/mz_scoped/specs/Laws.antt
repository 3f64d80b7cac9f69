-- What holds of every text that reads.
use Rattle.std.specs.Prelude.{ℕ, List}
use Rattle.mz_tree.specs.Programs.{Program}
use Rattle.mz_scope.specs.Reads.{Reads}
use Rattle.mz_tree.specs.Scoped.{Scoped}

-- the program of a text is scoped
abbrev pub WhatReadsIsScoped : Type 0
WhatReadsIsScoped = (bytes : List ℕ) (program : Program) → Reads bytes program → Scoped program
