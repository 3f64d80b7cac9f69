use Rattle.std.proofs.Common.{inl, inr}
use Rattle.mz_goal.specs.Reaching.{back_steps}
use Rattle.mz_goal.proofs.Reached.{added_by, turned, back_leads, pushed, framed}
use Rattle.mz_goal.proofs.naming.follow_back.Goals as goal

pub returns-then-right-from : goal.returns-then-right-from
returns-then-right-from c D Q i j = added_by D Q _ _ _ _ (pushed _ _ _ c.in_ok-push.ensures.ok) (turned D Q c.args.from c.args.left c.args.right c.if-right-from.true i)

pub returns : goal.returns
returns c D Q i j = elim j [
  | inl e ↦ absurd (c.if-right-from.false e)
  | inr k ↦ added_by D Q _ _ _ (back_steps c.args.from c.args.left c.args.right) (framed _ _ _ _ _ _ _ c.in_ok-push-2.ensures.ok c.in_ok-pass_over.ensures c.in_ok-push-3.ensures.ok) (back_leads D Q c.args.from c.args.left c.args.right k i)
]
