use Rattle.std.proofs.Common.{sym, ap, ◌∙◌, refl, get_or, arith}
use Rattle.std.specs.List.{list_all}
use Rattle.std.proofs.lemmas.List.{map-id}
use Rattle.mz_deriv.specs.Outer.{is_outer}
use Rattle.mz_deriv.proofs.Lists.{same_at}
use Rattle.mz_deriv.proofs.Passing.{one_fails, one_passes, all_pass}
use Rattle.mz_deriv.proofs.outer.are_outer.Goals as goal

pub loop-i-init : goal.loop-i-init
loop-i-init c = refl

pub returns-then-not-is_outer : goal.returns-then-not-is_outer
returns-then-not-is_outer c =
    let test = is_outer c.args.bound.now c.args.state.now c.args.to in
    sym (sym (ap (list_all test) (map-id c.args.names.now)) ∙ one_fails test (λ n. n) c.args.names.now c.loop-i.i (get_or c.args.names.now c.loop-i.i 0) c.loop-i-test.true (same_at c.args.names.now c.loop-i.i 0 (get_or c.args.names.now c.loop-i.i 0) c.loop-i-test.true) (sym c.is_outer.ensures ∙ c.if-not-is_outer.true) c.loop-i.invariant)

pub loop-i-preserved : goal.loop-i-preserved
loop-i-preserved c =
    let test = is_outer c.args.bound.now c.args.state.now c.args.to in
    one_passes test (λ n. n) c.args.names.now c.loop-i.i (get_or c.args.names.now c.loop-i.i 0) c.loop-i-test.true (same_at c.args.names.now c.loop-i.i 0 (get_or c.args.names.now c.loop-i.i 0) c.loop-i-test.true) (sym c.is_outer.ensures ∙ c.if-not-is_outer.false) c.loop-i.invariant

pub returns : goal.returns
returns c =
    let test = is_outer c.args.bound.now c.args.state.now c.args.to in
    sym (sym (ap (list_all test) (map-id c.args.names.now)) ∙ all_pass test (λ n. n) c.args.names.now c.loop-i.i (omega arith) c.loop-i.invariant)
