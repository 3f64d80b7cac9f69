-- What the code has of a source after its walk: the program and all that is wrong.
use Rattle.std.specs.Prelude.{◌≡◌, List}
use Rattle.mz_tree.specs.View.{plain_program}
use Rattle.mz_scope.specs.declared.resolution.Walked.{Walked}
use Rattle.mz_scope.specs.Syntax.{Declaration}
use Rattle.mz_scope.specs.Flattening.{flat_program, faults_of}

pub record Walks (tree : List Declaration) (walked : Walked) : Type 0 where
  pub flat : plain_program walked.program ≡ flat_program tree
  pub faults : walked.faults ≡ faults_of tree
