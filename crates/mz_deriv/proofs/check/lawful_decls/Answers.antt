use Rattle.std.proofs.Common.{Err, subst}
use Rattle.mz_tree.specs.View.{plain_program}
use Rattle.mz_decl.specs.View.{Forms}
use Rattle.mz_deriv.proofs.check.lawful_decls.Goals as goal

pub unreachable-requires : goal.unreachable-requires
unreachable-requires c =
    let refused = subst (λ f. Forms (plain_program c.args.program.now) (Err f)) c.in-Err-ImmutableAdopter.field-0-is c.in-Err-ImmutableAdopter.ensures in
    c.requires.declared c.in-Err-ImmutableAdopter.field-0-0 refused.0
