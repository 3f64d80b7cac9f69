use Rattle.std.proofs.Common.{◌++◌, drop, ap, ◌∙◌}
use Rattle.std.proofs.lemmas.Option.{slice_get-get_or}
use Rattle.mz_view.specs.Equations.{equations}
use Rattle.mz_view.proofs.Listed.{equations_next, equations_past}
use Rattle.mz_view.proofs.meeting.with_equations.Goals as goal
use Rattle.mz_view.proofs.meeting.with_equations.Goals.{then-i-right+in_ok-add, else-i-right}

pub loop-i-preserved : goal.loop-i-preserved
loop-i-preserved c = elim c.if-i-right.branch [
  | then-i-right+in_ok-add w ↦ equations_next c.loop-i.next c.if-i-right.next (c.args.state.now ++ equations c.args.left.now c.args.right.now) c.args.left.now c.args.right.now c.loop-i.i _ _
      (slice_get-get_or c.args.left.now c.loop-i.i _ c.loop-i-test.true) (slice_get-get_or c.args.right.now c.loop-i.i _ w.if-i-right.true) (w.next-is ∙ w.in_ok-add.ensures.added) c.loop-i.invariant
  | else-i-right w ↦ equations_past c.if-i-right.next (c.args.state.now ++ equations c.args.left.now c.args.right.now) c.args.left.now c.args.right.now c.loop-i.i w.if-i-right.false
      (ap (λ l. l ++ equations (drop c.loop-i.i c.args.left.now) (drop c.loop-i.i c.args.right.now)) w.next-is ∙ c.loop-i.invariant)
]
