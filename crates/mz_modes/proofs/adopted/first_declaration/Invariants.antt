use Rattle.mz_decl.specs.Places.{IsFirst, IsBelow}
use Rattle.mz_decl.specs.View.{plain_decls}
use Rattle.mz_modes.specs.Adopted.{DeclarationAdopts}
use Rattle.mz_modes.proofs.adopted.first_declaration.Given as goal

abbrev pub invariant-loop-k : goal.invariant-loop-k
invariant-loop-k l = IsFirst (IsBelow (DeclarationAdopts (plain_decls l.decls)) l.k) l.first
