use Rattle.std.proofs.Common.{refl}
use Rattle.mz_tree.specs.View.{plain_atom}
use Rattle.mz_flow.proofs.Blocks.{not_replaced, replaced}
use Rattle.mz_flow.proofs.changing.change.Goals as goal

pub returns-then-not-remove : goal.returns-then-not-remove
returns-then-not-remove c = (not_replaced (plain_atom c.args.atom.now) (plain_atom c.args.changed) c.args.state.now c.in_ok-next.next c.args.to c.in_ok-next.ensures c.if-not-remove.ensures.0, refl)

pub returns : goal.returns
returns c = replaced (plain_atom c.args.atom.now) (plain_atom c.args.changed) c.args.state.now c.in_ok-next.next c.remove.new.self c.add.new.self c.add-2.new.self c.args.to c.in_ok-next.ensures c.if-not-remove.ensures c.in_ok-add.ensures.added c.in_ok-add-2.ensures.added
