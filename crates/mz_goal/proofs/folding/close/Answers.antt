use Rattle.std.proofs.Common.{◌++◌, ◌∷◌, ◌∙◌, [], ap, subst}
use Rattle.mz_tree.specs.View.{plain_ty, plain_atoms}
use Rattle.mz_decl.specs.View.{plain_decls}
use Rattle.mz_view.specs.Steps.{plain_steps, Fold_step}
use Rattle.mz_goal.specs.Folding.{DropsEach}
use Rattle.mz_goal.proofs.Reached.{pushed}
use Rattle.mz_goal.proofs.Wholes.{ends_ok}
use Rattle.mz_goal.proofs.folding.close.Goals as goal

pub returns : goal.returns
returns c =
    let D = plain_decls c.args.decls.now in
    let w = c.args.whole.now in
    let old = plain_steps c.args.steps.now in
    ends_ok c.keep_whole.result D c.args.state.now c.keep_whole.new.state c.args.marks.now c.keep_whole.new.marks c.args.name c.args.number (plain_ty w.block) (plain_atoms w.goals) c.args.steps.now c.push.new.self c.drop_kept.new.steps c.drop_each.new.steps c.keep_whole.new.steps c.requires.whole
    (pushed c.args.steps.now c.push.new.self _ c.in_ok-push.ensures.ok ∙ ap (λ b. old ++ Fold_step b ∷ []) c.in_ok-has.ensures) (c.in_ok-drop_kept.ensures D c.requires.modes)
    (subst (λ l. DropsEach D (plain_atoms l) (plain_steps c.drop_kept.new.steps) (plain_steps c.drop_each.new.steps)) c.as_slice.ensures (c.in_ok-drop_each.ensures D c.requires.modes)) c.keep_whole.ensures.closed c.keep_whole.ensures.leads
