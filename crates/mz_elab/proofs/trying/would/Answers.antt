use Rattle.mz_tree.specs.View.{plain_atom}
use Rattle.mz_decl.specs.View.{plain_decls}
use Rattle.mz_elab.specs.Joining.{plain_end}
use Rattle.mz_elab.proofs.AllTried.{would_by}
use Rattle.mz_elab.proofs.trying.would.Goals as goal

pub returns : goal.returns
returns c = would_by c.in_ok-met.met (plain_decls c.args.decls.now) c.args.to (plain_atom c.args.goal.now) (plain_atom c.in_ok-wanted.wanted) (plain_end c.args.end.now) c.in_ok-left.left c.need.new.state c.new-steps.result c.need.new.steps c.in_ok-wanted.ensures c.in_ok-left.ensures c.in_ok-met.ensures.met
