use Rattle.std.proofs.Common.{◌≡◌, ◌+◌, ◌++◌, ◌∷◌, [], suc, arith, ap, ◌∙◌}
use Rattle.mz_decl.specs.Contents.{names_from}
use Rattle.mz_deriv.proofs.Lists.{names_end}
use Rattle.mz_deriv.proofs.owing.parameters.Goals as goal

pub loop-name-preserved : goal.loop-name-preserved
loop-name-preserved c =
    let n = c.loop-name.name in
    let zero_more : n ≡ 0 + n = omega arith in
    let next : suc n ≡ n + 1 = omega arith in
    c.in_ok-push.ensures.ok ∙ ap (λ l. l ++ n ∷ []) c.loop-name.invariant ∙ ap (λ k. names_from 0 n ++ k ∷ []) zero_more ∙ names_end 0 n ∙ ap (names_from 0) next
