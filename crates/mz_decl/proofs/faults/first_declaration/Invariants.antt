use Rattle.mz_tree.specs.View.{plain_program}
use Rattle.mz_decl.specs.Places.{IsFirst, IsBelow}
use Rattle.mz_decl.specs.Declarations.{OnDeclaration}
use Rattle.mz_decl.proofs.faults.first_declaration.Given as goal

abbrev pub invariant-loop-k : goal.invariant-loop-k
invariant-loop-k l = IsFirst (IsBelow (OnDeclaration (plain_program l.program)) l.k) l.first
