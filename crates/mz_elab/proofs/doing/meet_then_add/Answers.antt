use Rattle.std.proofs.Common.{map}
use Rattle.mz_tree.specs.View.{plain_atom, plain_atoms}
use Rattle.mz_decl.specs.View.{plain_decls}
use Rattle.mz_deriv.specs.View.{plain_item}
use Rattle.mz_elab.specs.Standing.{IsKnown}
use Rattle.mz_elab.proofs.DoneItems.{met}
use Rattle.mz_elab.proofs.doing.meet_then_add.Goals as goal

pub returns : goal.returns
returns c = met (plain_decls c.args.decls.now) (IsKnown c.args.bound.now c.args.next) c.args.state.now (plain_atoms c.args.goals.now) c.meet_goals.new.state (plain_atom c.args.atom) c.add.new.self (map plain_item c.args.items.now) (map plain_item c.meet_goals.new.items) (map plain_item c.write_do.new.items) c.in_ok-meet_goals.ensures.0 c.in_ok-meet_goals.ensures.1 c.in_ok-add.ensures.added c.in_ok-write_do.ensures
