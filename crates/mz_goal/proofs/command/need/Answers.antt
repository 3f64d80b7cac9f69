use Rattle.mz_tree.specs.View.{plain_atom}
use Rattle.mz_decl.specs.View.{plain_decls}
use Rattle.mz_goal.proofs.Commands.{need_ok}
use Rattle.mz_goal.proofs.command.need.Goals as goal

pub returns-clause-met : goal.returns-clause-met
returns-clause-met c = need_ok c.meet_from.result (plain_decls c.args.decls.now) c.args.state.now c.new.result (plain_atom c.args.goal.now) c.meet_from.new.state c.args.steps.now c.meet_from.new.steps c.new.ensures c.meet_from.ensures.met
