use Rattle.std.proofs.Common.{refl, map}
use Rattle.mz_decl.specs.View.{plain_decls}
use Rattle.mz_deriv.specs.View.{plain_item}
use Rattle.mz_elab.specs.Standing.{IsKnown}
use Rattle.mz_elab.proofs.AllGiving.{at_index}
use Rattle.mz_elab.proofs.SeveralGoals.{several_start, several_met, several_unmet}
use Rattle.mz_elab.proofs.goals.meet_goals.Goals as goal

pub loop-i-init : goal.loop-i-init
loop-i-init c = several_start (plain_decls c.args.decls.now) (IsKnown c.args.bound.now c.args.next) c.args.state.now c.args.goals.now (map plain_item c.args.items.now)

pub returns-then-not-branch : goal.returns-then-not-branch
returns-then-not-branch c = (refl, several_unmet (plain_decls c.args.decls.now) (IsKnown c.args.bound.now c.args.next) c.args.state.now c.args.goals.now (map plain_item c.args.items.now) c.in_ok-meet_goal.field-0 c.loop-i.i c.index-goals-i.result c.in_ok-atom.atom c.loop-i.state _ (map plain_item c.loop-i.items) _ c.if-not-branch.true c.loop-i.invariant (at_index c.args.goals.now c.loop-i.i c.index-goals-i.result c.loop-i-test.true c.index-goals-i.is) c.in_ok-meet_goal.ensures c.in_ok-atom.ensures)

pub loop-i-preserved : goal.loop-i-preserved
loop-i-preserved c = several_met (plain_decls c.args.decls.now) (IsKnown c.args.bound.now c.args.next) c.args.state.now c.args.goals.now (map plain_item c.args.items.now) c.in_ok-meet_goal.field-0 c.loop-i.i c.index-goals-i.result c.loop-i.state c.meet_goal.new.state (map plain_item c.loop-i.items) (map plain_item c.meet_goal.new.items) c.if-not-branch.false c.loop-i.invariant (at_index c.args.goals.now c.loop-i.i c.index-goals-i.result c.loop-i-test.true c.index-goals-i.is) c.loop-i-test.true c.in_ok-meet_goal.ensures
