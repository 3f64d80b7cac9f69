use Rattle.std.proofs.Common.{subst, None}
use Rattle.mz_decl.specs.Places.{IsFirst}
use Rattle.mz_decl.specs.Declarations.{Decls}
use Rattle.mz_modes.specs.Adopted.{IsNotExclusive}
use Rattle.mz_elab_tests.proofs.answers.is_declared.Goals as goal

pub returns-in-Ok-modes : goal.returns-in-Ok-modes
returns-in-Ok-modes c = λ yes. record {
  on_mutable = c.in-Ok.ensures.1;
  exclusive = subst (λ (d : Decls). IsFirst (IsNotExclusive d) None) c.in-Ok.ensures.0 c.in-Ok-modes.ensures.1;
}
