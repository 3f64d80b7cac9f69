use Rattle.std.proofs.Common.{subst}
use Rattle.mz_decl.specs.View.{plain_decls}
use Rattle.mz_elab.specs.Sought.{FirstAt, Held_sought, IsSought}
use Rattle.mz_elab.proofs.valuing.first_held.Goals as goal

pub returns : goal.returns
returns c = subst (λ l. FirstAt c.args.end.now.state c.args.end.now.value (IsSought (plain_decls c.args.decls.now) (Held_sought l)) c.in_ok-found.found) c.in_ok-copy.ensures c.in_ok-found.ensures
