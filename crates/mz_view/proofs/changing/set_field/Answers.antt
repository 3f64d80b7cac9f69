use Rattle.std.proofs.Common.{slice_set, sym, ap, ◌∙◌, subst}
use Rattle.mz_tree.specs.Plain.{Block_type, Has_atom}
use Rattle.mz_tree.specs.View.{plain_ty, plain_atom}
use Rattle.mz_decl.specs.View.{plain_decls}
use Rattle.mz_view.specs.Answers.{HasEqual}
use Rattle.mz_view.proofs.Changes.{sets_field}
use Rattle.mz_view.proofs.changing.set_field.Goals as goal

pub returns-in_ok-names-in-Block : goal.returns-in_ok-names-in-Block
returns-in_ok-names-in-Block c =
    sets_field (plain_decls c.args.decls.now) c.args.state.now c.exchange.new.state (plain_atom c.args.atom.now) (plain_atom c.block-new.result) c.in-Has.name c.in-Block.con c.args.field c.args.to c.in-Block.fields c.in-Block.adopts c.exchange.result
    (ap plain_atom c.in-Has.is ∙ ap (λ t. Has_atom c.in-Has.name (plain_ty t)) c.in-Block.is) (subst (λ l. HasEqual c.args.state.now l c.args.field c.args.to) c.as_slice.ensures c.if-not-is_equal_field.ensures)
    (c.block-new.ensures ∙ ap (λ l. Has_atom c.in-Has.name (Block_type c.in-Block.con l c.in-Block.adopts)) (c.set.ensures ∙ ap (λ l. slice_set l c.args.field c.args.to) c.in_ok-names-in-Block.ensures)) c.exchange.ensures
