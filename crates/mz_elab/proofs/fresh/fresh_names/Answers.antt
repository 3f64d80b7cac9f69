use Rattle.std.proofs.Common.{◌++◌, ◌∷◌, [], sym, ap, ◌∙◌, arith}
use Rattle.mz_decl.specs.Contents.{names_from}
use Rattle.mz_modes.proofs.Opened.{names_next}
use Rattle.mz_elab.proofs.fresh.fresh_names.Goals as goal

pub loop-preserved : goal.loop-preserved
loop-preserved c = (
  c.in_ok-push.ensures.ok ∙ ap (λ l. l ++ c.loop.last ∷ []) c.loop.invariant.0 ∙ ap (λ k. names_from c.args.next c.loop.counter ++ k ∷ []) c.loop.invariant.1 ∙ sym (names_next c.args.next c.loop.counter),
  omega (arith, c.in-Some.ensures),
)
