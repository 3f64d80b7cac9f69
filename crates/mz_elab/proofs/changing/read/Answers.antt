use Rattle.mz_decl.specs.View.{plain_decls}
use Rattle.mz_elab.proofs.BlockFound.{read_done}
use Rattle.mz_elab.proofs.changing.read.Goals as goal

pub returns : goal.returns
returns c = read_done (plain_decls c.args.decls.now) c.args.state.now c.args.block c.args.con c.args.next.now c.find_block.new.state c.find_block.new.next c.in_ok-at.at c.args.to c.args.field c.name_in-value.result c.add.new.self c.in_ok-at.ensures c.requires.field c.name_in-value.ensures c.in_ok-add.ensures.added
