use Rattle.std.proofs.Common.{Some, ap, ◌∙◌}
use Rattle.mz_tree.specs.View.{plain_atom, plain_ty}
use Rattle.mz_decl.specs.View.{plain_decls}
use Rattle.mz_elab.proofs.Adopters.{adopts_at}
use Rattle.mz_elab.proofs.adopting.adopted_at.Goals as goal

pub returns-in-Has : goal.returns-in-Has
returns-in-Has c = adopts_at (plain_decls c.args.decls.now) c.args.state.now c.args.place c.in-Has.name c.adopted.result (plain_ty c.in-Has.ty) (c.at.ensures ∙ ap (λ a. Some (plain_atom a)) c.in-Has.is) c.adopted.ensures
