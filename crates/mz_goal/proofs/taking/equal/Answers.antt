use Rattle.std.proofs.Common.{◌≡◌, true}
use Rattle.mz_goal.proofs.Serving.{equal_met, equal_unmet}
use Rattle.mz_goal.proofs.taking.equal.Goals as goal

pub returns-then-not-branch : goal.returns-then-not-branch
returns-then-not-branch c D = equal_unmet D c.args.state.now c.args.marks.now c.args.left c.args.right (λ j. let t : c.in_ok-same_name.field-0 ≡ true = c.in_ok-same_name.ensures.1 j in absurd (cc))

pub returns : goal.returns
returns c D = equal_met D c.args.state.now c.args.marks.now c.args.left c.args.right c.args.steps.now c.equate.new.steps (c.in_ok-same_name.ensures.0 c.if-not-branch.false) (c.in_ok-equate.ensures D)
