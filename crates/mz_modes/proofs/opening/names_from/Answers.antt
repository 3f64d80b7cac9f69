use Rattle.std.proofs.Common.{◌+◌, ◌++◌, ◌∷◌, [], sym, ap, ◌∙◌}
use Rattle.mz_modes.proofs.Opened.{names_next}
use Rattle.mz_modes.proofs.opening.names_from.Goals as goal

pub loop-i-preserved : goal.loop-i-preserved
loop-i-preserved c = c.in_ok-push.ensures.ok ∙ ap (λ l. l ++ (c.args.from + c.loop-i.i) ∷ []) c.loop-i.invariant ∙ sym (names_next c.args.from c.loop-i.i)
