use Rattle.std.proofs.Common.{Some, ap, ◌∙◌}
use Rattle.mz_tree.specs.View.{plain_atom, plain_ty}
use Rattle.mz_elab.proofs.Locks.{lock_found}
use Rattle.mz_elab.proofs.locking.guards_at.Goals as goal

pub returns-in-Has : goal.returns-in-Has
returns-in-Has c = λ l h. lock_found c.args.state.now l c.args.place c.in-Has.name (plain_ty c.in-Has.ty) c.guards_of.result (c.at.ensures ∙ ap (λ a. Some (plain_atom a)) c.in-Has.is) c.guards_of.ensures h
