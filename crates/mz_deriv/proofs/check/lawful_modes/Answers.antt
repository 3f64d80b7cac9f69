use Rattle.std.proofs.Common.{Err, subst}
use Rattle.mz_decl.specs.View.{plain_decls}
use Rattle.mz_modes.specs.Modes.{HasModes}
use Rattle.mz_deriv.proofs.check.lawful_modes.Goals as goal

pub unreachable-requires : goal.unreachable-requires
unreachable-requires c =
    let refused = subst (λ f. HasModes (plain_decls c.args.decls.now) (Err f)) c.in-Err-NotExclusive.field-0-is c.in-Err-NotExclusive.ensures in
    c.requires c.in-Err-NotExclusive.field-0-0 refused.0
