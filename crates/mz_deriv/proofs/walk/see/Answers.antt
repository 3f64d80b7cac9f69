use Rattle.mz_decl.specs.View.{plain_decls}
use Rattle.mz_view.specs.Steps.{plain_step}
use Rattle.mz_view.proofs.Firsts.{view_any}
use Rattle.mz_deriv.proofs.walk.see.Goals as goal

pub returns-in-Ok : goal.returns-in-Ok
returns-in-Ok c = view_any (plain_decls c.args.decls.now) c.args.state.now (plain_step c.args.step.now) c.apply.new.state c.in-Ok.ensures
