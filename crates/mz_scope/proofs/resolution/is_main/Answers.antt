use Rattle.std.proofs.Common.{◌≡◌, true, not, codes, get_or, ap₂, ◌∙◌, arith}
use Rattle.std.specs.Str.{bytes_eq}
use Rattle.std.proofs.lemmas.Option.{slice_get-get_or}
use Rattle.mz_scope.proofs.WalkEnds.{true_by_not, main_is}
use Rattle.mz_scope.proofs.resolution.is_main.Goals as goal

pub returns : goal.returns
returns c =
    let sigs = c.args.sigs.now in
    let k = c.args.fun.now.sig in
    let other = c.index-sigs-sig.result in
    let named : bytes_eq c.args.fun.now.name (codes "main") ≡ true = true_by_not _ (c.if-ne.ensures ∙ ap₂ (λ a b. not (bytes_eq a b)) c.as_slice.ensures c.as_slice-2.ensures) in
    main_is (bytes_eq c.args.fun.now.name (codes "main")) sigs k (get_or sigs k other) named (slice_get-get_or sigs k other (omega arith))
