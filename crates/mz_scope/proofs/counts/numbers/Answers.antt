use Rattle.std.proofs.Common.{◌∷◌, ◌++◌, [], ap₂, sym, ◌∙◌}
use Rattle.mz_scope.proofs.Numbers.{range_more}
use Rattle.mz_scope.proofs.counts.numbers.Goals as goal

pub loop-i-preserved : goal.loop-i-preserved
loop-i-preserved c =
    c.in_ok-push.ensures.ok ∙ ap₂ (λ l n. l ++ n ∷ []) c.loop-i.invariant c.in_ok-after.ensures ∙ sym (range_more c.args.first c.loop-i.i)
