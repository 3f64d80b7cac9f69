use Rattle.mz_decl.specs.View.{plain_decls}
use Rattle.mz_modes.specs.Opening.{Opens}
use Rattle.mz_flow.proofs.Answering.{refused_alike}
use Rattle.mz_flow.proofs.branches.opened.Goals as goal

pub returns-in_err-open_at : goal.returns-in_err-open_at
returns-in_err-open_at c = refused_alike (λ R which. Opens which (plain_decls c.args.decls.now) R c.args.block c.args.variety c.args.con c.args.fresh) c.args.state.now c.in_ok-next.next c.open_at.new.state c.in_err-open_at.field-0.0 c.from_residual-in_err-open_at.result c.in_ok-next.ensures c.in_err-open_at.ensures c.from_residual-in_err-open_at.ensures.1
