use Rattle.mz_decl.specs.View.{plain_decls}
use Rattle.mz_elab.proofs.Sorts.{none_by_data}
use Rattle.mz_elab.proofs.finding.block_adopts.Goals as goal

pub returns-in-None : goal.returns-in-None
returns-in-None c = λ ys. none_by_data (plain_decls c.args.decls.now) c.args.con ys c.args.own c.adopts_by_data.result c.in-None.is c.adopts_by_data.ensures
