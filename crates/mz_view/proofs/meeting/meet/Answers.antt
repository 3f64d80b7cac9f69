use Rattle.std.proofs.Common.{ap, ◌∙◌}
use Rattle.mz_tree.specs.Plain.{Has_atom}
use Rattle.mz_tree.specs.View.{plain_ty, plain_atom}
use Rattle.mz_decl.specs.View.{plain_decls}
use Rattle.mz_view.proofs.Changes.{meets}
use Rattle.mz_view.proofs.meeting.meet.Goals as goal

pub returns-in-Block : goal.returns-in-Block
returns-in-Block c = meets (plain_decls c.args.decls.now) c.args.state.now c.meet_block.new.state (plain_atom c.args.left.now) (plain_atom c.args.right.now) c.in-Has.name c.in-Block.con c.in-Block.fields c.as_slice.result.now c.in-Block.adopts c.meet_block.result
    (ap plain_atom c.in-Has.is ∙ ap (λ t. Has_atom c.in-Has.name (plain_ty t)) c.in-Block.is) c.as_slice.ensures c.meet_block.ensures
