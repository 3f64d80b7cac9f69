use Rattle.std.proofs.Common.{◌++◌, ◌∷◌, ◌∙◌, [], ap, subst}
use Rattle.mz_tree.specs.Plain.{Has_atom, Named_type}
use Rattle.mz_tree.specs.Saying.{Denies}
use Rattle.mz_tree.specs.View.{plain_atom}
use Rattle.mz_decl.specs.View.{plain_decls}
use Rattle.mz_modes.specs.Affine.{AffineAtom}
use Rattle.mz_perm.proofs.Orders.{perm_refl}
use Rattle.mz_view.specs.Steps.{plain_steps, Copy_step}
use Rattle.mz_goal.proofs.Reached.{added_none, pushed}
use Rattle.mz_goal.proofs.Wholes.{whole_kept}
use Rattle.mz_goal.proofs.folding.keep_whole.Goals as goal

pub returns-then-duplicable-clause-leads : goal.returns-then-duplicable-clause-leads
returns-then-duplicable-clause-leads c =
    let D = plain_decls c.args.decls.now in
    let w = Has_atom c.args.name (Named_type c.args.number) in
    let old = plain_steps c.args.steps.now in
    whole_kept c.add.result D c.args.state.now c.add.new.state w old (plain_steps c.push.new.self) (subst (λ b. Denies b (AffineAtom D w)) c.if-duplicable.true (c.duplicable.ensures D c.requires))
    (pushed c.args.steps.now c.push.new.self _ c.in_ok-push.ensures.ok ∙ ap (λ a. old ++ Copy_step (plain_atom a) ∷ []) c.in_ok-copy.ensures) c.add.ensures.more

pub returns-clause-leads : goal.returns-clause-leads
returns-clause-leads c =
    let R = c.args.state.now ++ Has_atom c.args.name (Named_type c.args.number) ∷ [] in
    added_none (plain_decls c.args.decls.now) R R (plain_steps c.args.steps.now) (perm_refl R)
