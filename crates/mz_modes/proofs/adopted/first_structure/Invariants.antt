use Rattle.mz_decl.specs.Places.{IsFirst, IsBelow}
use Rattle.mz_decl.specs.View.{plain_decls}
use Rattle.mz_modes.specs.Adopted.{StructureAdopts}
use Rattle.mz_modes.proofs.adopted.first_structure.Given as goal

abbrev pub invariant-loop-k : goal.invariant-loop-k
invariant-loop-k l = IsFirst (IsBelow (StructureAdopts (plain_decls l.decls)) l.k) l.first
