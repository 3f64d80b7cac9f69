use Rattle.std.proofs.Common.{sym, ap, ◌∙◌, refl, get_or, arith}
use Rattle.std.specs.List.{list_all}
use Rattle.std.proofs.lemmas.List.{map-id}
use Rattle.mz_elab.specs.Sought.{known}
use Rattle.mz_deriv.proofs.Lists.{same_at}
use Rattle.mz_deriv.proofs.Passing.{one_fails, one_passes, all_pass}
use Rattle.mz_elab.proofs.outer.are_known.Goals as goal

pub loop-i-init : goal.loop-i-init
loop-i-init c = refl

pub returns-then-not-is_known : goal.returns-then-not-is_known
returns-then-not-is_known c =
    let test = known c.args.names.now c.args.next in
    sym (sym (ap (list_all test) (map-id c.args.fields.now)) ∙ one_fails test (λ n. n) c.args.fields.now c.loop-i.i (get_or c.args.fields.now c.loop-i.i 0) c.loop-i-test.true (same_at c.args.fields.now c.loop-i.i 0 (get_or c.args.fields.now c.loop-i.i 0) c.loop-i-test.true) (sym c.is_known.ensures ∙ c.if-not-is_known.true) c.loop-i.invariant)

pub loop-i-preserved : goal.loop-i-preserved
loop-i-preserved c =
    let test = known c.args.names.now c.args.next in
    one_passes test (λ n. n) c.args.fields.now c.loop-i.i (get_or c.args.fields.now c.loop-i.i 0) c.loop-i-test.true (same_at c.args.fields.now c.loop-i.i 0 (get_or c.args.fields.now c.loop-i.i 0) c.loop-i-test.true) (sym c.is_known.ensures ∙ c.if-not-is_known.false) c.loop-i.invariant

pub returns : goal.returns
returns c =
    let test = known c.args.names.now c.args.next in
    sym (sym (ap (list_all test) (map-id c.args.fields.now)) ∙ all_pass test (λ n. n) c.args.fields.now c.loop-i.i (omega arith) c.loop-i.invariant)
