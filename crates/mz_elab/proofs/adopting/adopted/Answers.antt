use Rattle.mz_tree.specs.View.{plain_ty}
use Rattle.mz_decl.specs.View.{plain_decls}
use Rattle.mz_elab.proofs.Adopters.{adopts_none}
use Rattle.mz_elab.proofs.adopting.adopted.Goals as goal

pub returns-in-None : goal.returns-in-None
returns-in-None c = λ u a. adopts_none (plain_decls c.args.decls.now) (plain_ty c.args.ty.now) u c.adopts.result c.in-None.is c.adopts.ensures a
