use Rattle.mz_tree.specs.View.{plain_program}
use Rattle.mz_decl.specs.Places.{IsFirst, IsBelow}
use Rattle.mz_decl.specs.Declarations.{OnStructure}
use Rattle.mz_decl.proofs.faults.first_structure.Given as goal

abbrev pub invariant-loop-k : goal.invariant-loop-k
invariant-loop-k l = IsFirst (IsBelow (OnStructure (plain_program l.program)) l.k) l.first
