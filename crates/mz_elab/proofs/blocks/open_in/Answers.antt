use Rattle.std.proofs.lemmas.Option.{slice_get_within}
use Rattle.mz_tree.specs.Plain.{Named_type, Has_atom}
use Rattle.mz_tree.specs.View.{plain_atoms}
use Rattle.mz_decl.specs.View.{plain_decls}
use Rattle.mz_elab.proofs.Found.{opens_end, opens_here}
use Rattle.mz_elab.proofs.blocks.open_in.Goals as goal

pub returns-then-duplicable : goal.returns-then-duplicable
returns-then-duplicable c =
    let made = c.requires.declared.made in
    opens_end (plain_decls c.args.decls.now) c.args.state.now c.args.place c.args.name c.args.number c.args.con c.args.names.now made c.insert_all.new.state (plain_atoms c.in_ok-known.known) c.len-end.result c.requires.declared.is_con (c.if-duplicable.ensures (plain_decls c.args.decls.now) c.requires.modes) (c.in_ok-known.ensures made c.requires.declared.is_con) c.len-end.ensures c.in_ok-insert_all.ensures

pub returns : goal.returns
returns c =
    let made = c.requires.declared.made in
    opens_here (plain_decls c.args.decls.now) c.args.state.now c.args.place c.args.name c.args.number c.args.con c.args.names.now made c.take_at.new.self c.insert_all-2.new.state (plain_atoms c.in_ok-known.known) c.requires.declared.is_con (c.if-duplicable.ensures (plain_decls c.args.decls.now) c.requires.modes) (c.in_ok-known.ensures made c.requires.declared.is_con) (slice_get_within c.args.state.now c.args.place (Has_atom c.args.name (Named_type c.args.number)) c.requires.stands) c.take_at.ensures.rest c.in_ok-insert_all-2.ensures
