use Rattle.std.proofs.Common.{Some, sym, ap, ◌∙◌}
use Rattle.mz_tree.specs.Plain.{Block_type, Has_atom}
use Rattle.mz_tree.specs.View.{plain_ty, plain_atom}
use Rattle.mz_decl.specs.View.{plain_decls}
use Rattle.mz_view.proofs.Changes.{none_is, sets_clause}
use Rattle.mz_view.proofs.changing.set_clause.Goals as goal

pub returns-in_ok-copy-in-Block : goal.returns-in_ok-copy-in-Block
returns-in_ok-copy-in-Block c =
    sets_clause (plain_decls c.args.decls.now) c.args.state.now c.exchange.new.state (plain_atom c.args.atom.now) (plain_atom c.block-new.result) c.in-Has.name c.in-Block.con c.args.adopts c.in-Block.fields c.in-Block.clause c.exchange.result
    (ap plain_atom c.in-Has.is ∙ ap (λ t. Has_atom c.in-Has.name (plain_ty t)) c.in-Block.is) (none_is c.in-Block.clause (sym c.is_some.ensures ∙ c.if-is_some.false)) (c.if-not-is_mutable_con.ensures (plain_decls c.args.decls.now) c.requires) (c.if-not-is_mutable.ensures (plain_decls c.args.decls.now) c.requires)
    (c.block-new.ensures ∙ ap (λ l. Has_atom c.in-Has.name (Block_type c.in-Block.con l (Some c.args.adopts))) c.in_ok-copy-in-Block.ensures) c.exchange.ensures
