use Rattle.std.proofs.Common.{◌∙◌, subst}
use Rattle.mz_tree.specs.Saying.{Says}
use Rattle.mz_tree.specs.View.{plain_need}
use Rattle.mz_modes.specs.Calling.{Returns}
use Rattle.mz_modes.proofs.Returned.{given_back, not_given_back}
use Rattle.mz_modes.proofs.calling.gives_back.Goals as goal
use Rattle.mz_modes.proofs.calling.gives_back.Goals.{then-is_given_back+in_ok-copy+in_ok-push, else-is_given_back}

pub loop-i-preserved : goal.loop-i-preserved
loop-i-preserved c = λ D modes. elim c.if-is_given_back.branch [
  | then-is_given_back+in_ok-copy+in_ok-push w ↦ given_back D c.as_slice-all.result.now c.loop-i.i c.index-all-i.result _ c.loop-i.back c.if-is_given_back.back c.loop-i-test.true c.index-all-i.is (w.back-is ∙ w.in_ok-push.ensures.ok) w.in_ok-copy.ensures
      (subst (λ b. Says b (Returns D (plain_need c.index-all-i.result))) w.if-is_given_back.true (c.is_given_back.ensures D modes)) (c.loop-i.invariant D modes)
  | else-is_given_back w ↦ not_given_back D c.as_slice-all.result.now c.loop-i.i c.index-all-i.result c.loop-i.back c.if-is_given_back.back c.loop-i-test.true c.index-all-i.is w.back-is
      (subst (λ b. Says b (Returns D (plain_need c.index-all-i.result))) w.if-is_given_back.false (c.is_given_back.ensures D modes)) (c.loop-i.invariant D modes)
]
