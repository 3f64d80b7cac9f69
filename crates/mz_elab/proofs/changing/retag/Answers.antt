use Rattle.std.proofs.Common.{ap, ◌∙◌, sym, Some}
use Rattle.mz_tree.specs.View.{plain_atom}
use Rattle.mz_decl.specs.View.{plain_decls}
use Rattle.mz_elab.proofs.BlockFound.{retag_done}
use Rattle.mz_elab.proofs.changing.retag.Goals as goal

pub returns : goal.returns
returns c = retag_done (plain_decls c.args.decls.now) c.args.state.now c.args.block c.args.con c.args.next.now c.find_mutable.new.state c.find_mutable.new.next c.in_ok-at.at c.args.to (plain_atom c.in_ok-old.old) (plain_atom c.in_ok-new.new) c.put.new.state c.add_unit.new.state c.in_ok-at.ensures (c.at.ensures ∙ ap (λ a. Some (plain_atom a)) (sym c.in_ok-old.ensures)) c.in_ok-put.ensures c.in_ok-add_unit.ensures c.args.tag
    (λ y k ys clause e. c.in_ok-new.ensures (plain_decls c.args.decls.now) y k ys clause c.requires.modes e)
