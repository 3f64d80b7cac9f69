use Rattle.mz_tree.specs.View.{plain_atom}
use Rattle.mz_decl.specs.View.{plain_decls}
use Rattle.mz_goal.proofs.Commands.{beside_ok}
use Rattle.mz_goal.proofs.command.need_beside.Goals as goal

pub returns-clause-met : goal.returns-clause-met
returns-clause-met c a at = beside_ok c.meet_from.result (plain_decls c.args.decls.now) c.args.state.now c.set_mark.new.marks c.new-marks.result c.args.place a (plain_atom c.args.goal.now) c.meet_from.new.state c.args.steps.now c.meet_from.new.steps at c.new-marks.ensures (c.in_ok-set_mark.ensures c.args.state.now a at) c.meet_from.ensures.met
