use Rattle.std.proofs.Common.{ap}
use Rattle.mz_tree.specs.View.{plain_atom}
use Rattle.mz_goal.proofs.Reaching.{reaches_right, reaches_left}
use Rattle.mz_goal.proofs.naming.reach_over.Goals as goal

pub returns-then-has_left : goal.returns-then-has_left
returns-then-has_left c = reaches_right (plain_atom c.args.atom.now) c.args.from c.args.reached.now c.in-Same.left c.in-Same.right c.args.steps.now c.follow.new.steps _ _ (ap plain_atom c.in-Same.is) c.is_reached-has_left.ensures c.is_reached-has_right.ensures c.if-has_left-has_right.false c.if-has_left.true c.in_ok-follow-in-Same.ensures

pub returns-in_ok-follow_back-in-Same : goal.returns-in_ok-follow_back-in-Same
returns-in_ok-follow_back-in-Same c = reaches_left (plain_atom c.args.atom.now) c.args.from c.args.reached.now c.in-Same.left c.in-Same.right c.args.steps.now c.follow_back.new.steps _ _ (ap plain_atom c.in-Same.is) c.is_reached-has_left.ensures c.is_reached-has_right.ensures c.if-has_left-has_right.false c.if-has_left.false c.in_ok-follow_back-in-Same.ensures
