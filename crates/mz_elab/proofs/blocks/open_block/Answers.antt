use Rattle.std.proofs.Common.{refl, subst}
use Rattle.mz_decl.specs.View.{plain_decls}
use Rattle.mz_elab.specs.Finding.{ClosedAt}
use Rattle.mz_elab.proofs.BlockFound.{no_block, block_opened}
use Rattle.mz_elab.proofs.blocks.open_block.Goals as goal

pub returns-in-None : goal.returns-in-None
returns-in-None c =
    let D = plain_decls c.args.decls.now in
    let made = c.requires.con.made in
    (refl, no_block D c.args.state.now c.args.name c.args.con c.variety_of-number.result made c.requires.con.is_con c.requires.alone (c.variety_of-number.ensures made c.requires.con.is_con) (subst (ClosedAt D c.args.state.now c.args.name c.variety_of-number.result c.args.con) c.in-None.is c.in_ok-closed_at.ensures))

pub returns-in_ok-open_fresh-in-Some : goal.returns-in_ok-open_fresh-in-Some
returns-in_ok-open_fresh-in-Some c =
    let D = plain_decls c.args.decls.now in
    block_opened D c.args.state.now c.args.name c.args.con c.args.next.now c.open_fresh.new.state c.open_fresh.new.next c.variety_of-number.result c.in-Some.at c.in_ok-open_fresh-in-Some.field-0 c.requires.alone c.variety_of-number.ensures
    (subst (ClosedAt D c.args.state.now c.args.name c.variety_of-number.result c.args.con) c.in-Some.is c.in_ok-closed_at.ensures) c.in_ok-open_fresh-in-Some.ensures
