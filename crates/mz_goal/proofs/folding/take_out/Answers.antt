use Rattle.std.proofs.Common.{◌++◌, ◌∷◌, []}
use Rattle.mz_tree.specs.Plain.{Has_atom, Dynamic_type}
use Rattle.mz_tree.specs.View.{plain_ty}
use Rattle.mz_decl.specs.View.{plain_decls}
use Rattle.mz_view.specs.Steps.{plain_steps}
use Rattle.mz_goal.proofs.Reached.{pushed}
use Rattle.mz_goal.proofs.Serving.{added_ok}
use Rattle.mz_goal.proofs.Wholes.{joined_opened, taken_out}
use Rattle.mz_goal.proofs.folding.take_out.Goals as goal

pub rename-requires : goal.rename-requires
rename-requires c = joined_opened c.args.state.now c.take.new.state c.add.new.state (Has_atom c.args.subject Dynamic_type ∷ []) c.args.place c.args.subject (plain_ty c.args.block.now) c.requires.stands c.take.ensures.left c.in_ok-add.ensures.more c.args.name c.args.subject c.requires.joined

pub returns-clause-leads : goal.returns-clause-leads
returns-clause-leads c =
    let D = plain_decls c.args.decls.now in
    let R = c.args.state.now in
    let O = c.add.new.state in
    let t = plain_ty c.args.block.now in
    let first = taken_out D R c.take.new.state O c.args.place c.args.subject t (plain_steps c.args.steps.now) (plain_steps c.push.new.self) c.requires.stands c.take.ensures.left c.in_ok-add.ensures.more c.requires.mutable (pushed c.args.steps.now c.push.new.self _ c.in_ok-push.ensures.ok) in
    added_ok c.rename.result D R (O ++ Has_atom c.args.subject t ∷ []) (O ++ Has_atom c.args.name t ∷ []) (plain_steps c.args.steps.now) (plain_steps c.push.new.self) (plain_steps c.rename.new.steps) first (c.rename.ensures D c.requires.modes)
