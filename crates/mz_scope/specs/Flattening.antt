-- The flat program of a source, and all that is wrong with its names and shapes. The program is total: where something is
-- wrong it is of no use, and it says only where later faults stand.
use Rattle.std.specs.Prelude.{◌≡◌, Bool, true, false, List, []}
use Rattle.mz_tree.specs.Programs.{Program}
use Rattle.mz_tree.specs.Main.{has_main}
use Rattle.mz_scope.specs.declared.fault.Fault.{Fault}
use Rattle.mz_scope.specs.Syntax.{Declaration}
use Rattle.mz_scope.specs.Names.{globals_of}
use Rattle.mz_scope.specs.Making.{Came, Came_to, nothing_made}
use Rattle.mz_scope.specs.Declarations.{declarations}

-- what the source comes to
abbrev pub flattened : List Declaration → Came Program
flattened tree = declarations (globals_of tree) 0 0 0 0 tree nothing_made

-- the program, with the `adopts` of its structural types
abbrev pub program_in : Came Program → Program
program_in (Came_to program made) = record program { clauses = made.clauses }

abbrev pub flat_program : List Declaration → Program
flat_program tree = program_in (flattened tree)

-- what is wrong, in the order in which it was found
abbrev pub faults_in : Came Program → List Fault
faults_in (Came_to program made) = made.faults

abbrev pub faults_of : List Declaration → List Fault
faults_of tree = faults_in (flattened tree)

-- ---- sources without faults

pub record Flattens (tree : List Declaration) (program : Program) : Type 0 where
  pub clean : faults_of tree ≡ []
  pub begins : has_main (flat_program tree) ≡ true
  pub flat : program ≡ flat_program tree
