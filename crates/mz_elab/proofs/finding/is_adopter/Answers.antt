use Rattle.mz_decl.specs.View.{plain_decls}
use Rattle.mz_tree.specs.View.{plain_ty}
use Rattle.mz_elab.proofs.Sorts.{no_adopter}
use Rattle.mz_elab.proofs.finding.is_adopter.Goals as goal

pub returns-in-None : goal.returns-in-None
returns-in-None c = no_adopter (plain_decls c.args.decls.now) (plain_ty c.args.ty.now) c.adopts.result c.in-None.is c.adopts.ensures
