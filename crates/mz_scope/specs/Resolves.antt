-- What the answer of `resolve` says, by cases on it.
use Rattle.std.specs.Prelude.{◌≡◌, false, List, [], Result, Ok, Err}
use Rattle.mz_tree.specs.declared.program.Program.{Program as CodeProgram}
use Rattle.mz_tree.specs.View.{plain_program}
use Rattle.mz_scope.specs.declared.fault.Cause.TheVariants as cause
use Rattle.mz_scope.specs.declared.resolution.ScopeFault.{ScopeFault}
use Rattle.mz_scope.specs.declared.resolution.ScopeFault.TheVariants.{Unknown, Twice, Shape, NotExhaustive, TooMany, NoMain, Memory}
use Rattle.mz_scope.specs.Syntax.{Declaration}
use Rattle.mz_scope.specs.Faults.{IsFirst}
use Rattle.mz_scope.specs.Flattening.{flat_program, faults_of, Flattens}
use Rattle.mz_tree.specs.Main.{has_main}

-- the flat program, where nothing is wrong; the first fault of all; or no `main`, where nothing else is wrong
abbrev pub Resolves : List Declaration → Result CodeProgram ScopeFault → Type 0
Resolves tree (Ok program) = Flattens tree (plain_program program)
Resolves tree (Err (Unknown place)) = IsFirst (faults_of tree) (record { cause = cause.Unknown; place = place })
Resolves tree (Err (Twice place)) = IsFirst (faults_of tree) (record { cause = cause.Twice; place = place })
Resolves tree (Err (Shape place)) = IsFirst (faults_of tree) (record { cause = cause.Shape; place = place })
Resolves tree (Err (NotExhaustive place)) = IsFirst (faults_of tree) (record { cause = cause.NotExhaustive; place = place })
Resolves tree (Err (TooMany place)) = IsFirst (faults_of tree) (record { cause = cause.TooMany; place = place })
Resolves tree (Err NoMain) = (faults_of tree ≡ []) × (has_main (flat_program tree) ≡ false)
Resolves tree (Err Memory) = Unit {0}
