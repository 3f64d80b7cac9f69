use Rattle.std.proofs.Common.{◌++◌, ◌∷◌, []}
use Rattle.mz_tree.specs.Plain.{Has_atom}
use Rattle.mz_tree.specs.View.{plain_ty}
use Rattle.mz_perm.proofs.Orders.{perm_refl}
use Rattle.mz_view.specs.Steps.{plain_steps}
use Rattle.mz_goal.proofs.Reached.{added_none, pushed}
use Rattle.mz_goal.proofs.Putting.{put_once}
use Rattle.mz_goal.proofs.retyping.put.Goals as goal

pub returns-then-from-to-clause-leads : goal.returns-then-from-to-clause-leads
returns-then-from-to-clause-leads c D m =
    let R = c.args.state.now ++ Has_atom c.args.name (plain_ty c.args.ty.now) ∷ [] in
    added_none D R R (plain_steps c.args.steps.now) (perm_refl R)

pub returns-clause-leads : goal.returns-clause-leads
returns-clause-leads c D m = put_once D c.args.state.now c.args.name (plain_ty c.args.ty.now) (plain_ty c.in_ok-new.new) c.args.spot c.args.from c.args.to (plain_steps c.args.steps.now) (plain_steps c.equate.new.steps) (plain_steps c.add_put.new.steps) (plain_steps c.drop_kept.new.steps) (plain_steps c.push.new.self)
    c.requires.stands c.in_ok-new.ensures (c.in_ok-equate.ensures D) c.in_ok-add_put.ensures (c.in_ok-drop_kept.ensures D m) (pushed c.drop_kept.new.steps c.push.new.self _ c.in_ok-push.ensures.ok)
