use Rattle.std.proofs.Common.{sym, subst}
use Rattle.mz_decl.specs.View.{plain_decls}
use Rattle.mz_tree.specs.View.{plain_ty}
use Rattle.mz_elab.specs.Sought.{AdoptedBy}
use Rattle.mz_elab.proofs.finding.adopts.Goals as goal

pub returns-in-Block : goal.returns-in-Block
returns-in-Block c = subst (λ z. AdoptedBy (plain_decls c.args.decls.now) (plain_ty z) c.block_adopts.result) (sym c.in-Block.is) (c.block_adopts.ensures c.in-Block.fields)
