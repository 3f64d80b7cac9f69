use Rattle.std.proofs.Common.{◌++◌, ◌∷◌, ◌∙◌, [], ap}
use Rattle.mz_tree.specs.Plain.{Has_atom}
use Rattle.mz_tree.specs.View.{plain_ty}
use Rattle.mz_decl.specs.View.{plain_decls}
use Rattle.mz_view.specs.Steps.{plain_steps, Copy_step}
use Rattle.mz_goal.proofs.Reached.{pushed}
use Rattle.mz_goal.proofs.Serving.{added_ok}
use Rattle.mz_goal.proofs.Wholes.{block_copied}
use Rattle.mz_goal.proofs.folding.leave.Goals as goal

pub returns-clause-leads : goal.returns-clause-leads
returns-clause-leads c =
    let D = plain_decls c.args.decls.now in
    let R = c.args.state.now in
    let t = plain_ty c.args.block.now in
    let a = Has_atom c.args.subject t in
    let old = plain_steps c.args.steps.now in
    let first = block_copied D R c.args.place a old (plain_steps c.push.new.self) c.requires.stands c.requires.plain (pushed c.args.steps.now c.push.new.self _ c.in_ok-push.ensures.ok ∙ ap (λ b. old ++ Copy_step b ∷ []) c.in_ok-has.ensures) in
    added_ok c.rename.result D R (R ++ a ∷ []) (R ++ Has_atom c.args.name t ∷ []) old (plain_steps c.push.new.self) (plain_steps c.rename.new.steps) first (c.rename.ensures D c.requires.modes)
