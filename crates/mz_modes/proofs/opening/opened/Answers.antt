use Rattle.std.proofs.Common.{[], ◌∷◌, ◌++◌, map, length, sym, ap, ◌∙◌}
use Rattle.std.proofs.lemmas.List.{length-map}
use Rattle.mz_tree.specs.Plain.{Block_type, Has_atom}
use Rattle.mz_tree.specs.View.{plain_con, plain_field}
use Rattle.mz_decl.specs.View.{plain_decls}
use Rattle.mz_decl.specs.Contents.{contents}
use Rattle.mz_modes.proofs.Opened.{not_opens, opens}
use Rattle.mz_modes.proofs.opening.opened.Goals as goal

pub returns-then-not-use_up : goal.returns-then-not-use_up
returns-then-not-use_up c = not_opens (plain_decls c.args.decls.now) c.args.state.now c.in_ok-next.next c.args.name c.args.variety c.args.con c.args.fresh c.in_ok-next.ensures (c.if-not-use_up.ensures (plain_decls c.args.decls.now) c.requires).0

pub returns : goal.returns
returns c =
    opens (plain_decls c.args.decls.now) c.args.state.now c.in_ok-next.next c.use_up.new.state c.add.new.self c.add_contents.new.state c.args.name c.args.variety c.args.con c.args.fresh (length c.as_slice-fields.result.now) (plain_con c.in-Some.made.now) c.in_ok-names.names c.clause_at.result
    c.in-Some.ensures c.if-not-are_fresh.ensures.fresh (ap length c.as_slice-fields.ensures ∙ sym (length-map c.in-Some.made.now.fields plain_field)) c.in_ok-next.ensures (c.if-not-use_up.ensures (plain_decls c.args.decls.now) c.requires) c.in_ok-names.ensures c.clause_at.ensures
    (c.in_ok-add.ensures.added ∙ ap (λ l. c.use_up.new.state ++ Has_atom c.args.name (Block_type c.args.con l c.clause_at.result) ∷ []) c.in_ok-copy.ensures)
    (c.in_ok-add_contents.ensures ∙ ap (λ l. c.add.new.self ++ contents c.in_ok-names.names (map plain_field l)) c.as_slice-fields.ensures)
