use Rattle.std.proofs.Common.{subst, sym, ◌<◌, ◌∷◌, []}
use Rattle.mz_view.specs.Steps.{Equal_step}
use Rattle.mz_goal.specs.Reaching.{ReachesOne, outside}
use Rattle.mz_goal.proofs.Reaching.{joins_fewer, not_first, not_more, search_goes_on}
use Rattle.mz_goal.proofs.Reached.{added_by, pushed, itself, search_begins, search_more, search_ends}
use Rattle.mz_goal.proofs.naming.equate.Goals as goal

pub returns-then-left-right : goal.returns-then-left-right
returns-then-left-right c D = added_by D c.args.state.now _ _ _ (Equal_step c.args.left c.args.right ∷ []) (pushed _ _ _ c.in_ok-push.ensures.ok) (itself D c.args.state.now c.args.left c.args.right c.if-left-right.true)

pub loop-reached-init : goal.loop-reached-init
loop-reached-init c = (λ D. search_begins D c.args.state.now c.args.left c.new-reached.result _ c.new-reached.ensures, not_first c.args.left c.args.right c.new-reached.result c.if-left-right.false c.new-reached.ensures)

pub returns-then-name-right : goal.returns-then-name-right
returns-then-name-right c D =
    let R = c.args.state.now in
    let x = c.args.left in
    let names = c.loop-reached.reached in
    let said = subst (λ l. ReachesOne c.in_ok-name.field-0 R x l c.loop-reached.steps c.reach.new.steps) c.as_slice.ensures c.in_ok-name.ensures in
    search_ends D R x c.in-Some.name c.args.right names c.as_slice-then-name-right.result.now c.args.steps.now c.loop-reached.steps c.reach.new.steps c.forget.new.steps (c.loop-reached.invariant.0 D)
    (subst (λ o. ReachesOne o R x names c.loop-reached.steps c.reach.new.steps) c.in-Some.is said) c.if-name-right.true c.as_slice-then-name-right.ensures c.in_ok-forget.ensures

pub loop-reached-smaller : goal.loop-reached-smaller
loop-reached-smaller c =
    let R = c.args.state.now in
    let x = c.args.left in
    let names = c.loop-reached.reached in
    let said = subst (λ l. ReachesOne c.in_ok-name.field-0 R x l c.loop-reached.steps c.reach.new.steps) c.as_slice.ensures c.in_ok-name.ensures in
    let by = subst (λ o. ReachesOne o R x names c.loop-reached.steps c.reach.new.steps) c.in-Some.is said in
    subst (λ l. outside R (x ∷ l) < outside R (x ∷ names)) (sym c.in_ok-push-2.ensures.ok) (joins_fewer R by.equation (x ∷ names) c.in-Some.name by.held by.joins)

pub loop-reached-preserved : goal.loop-reached-preserved
loop-reached-preserved c =
    let R = c.args.state.now in
    let x = c.args.left in
    let names = c.loop-reached.reached in
    let said = subst (λ l. ReachesOne c.in_ok-name.field-0 R x l c.loop-reached.steps c.reach.new.steps) c.as_slice.ensures c.in_ok-name.ensures in
    let by = subst (λ o. ReachesOne o R x names c.loop-reached.steps c.reach.new.steps) c.in-Some.is said in
    (λ D. search_more D R x c.in-Some.name names c.push-in-Some.new.self c.args.steps.now c.loop-reached.steps c.reach.new.steps (c.loop-reached.invariant.0 D) by c.in_ok-push-2.ensures.ok, not_more x names c.push-in-Some.new.self c.in-Some.name c.args.right c.loop-reached.invariant.1 c.if-name-right.false c.in_ok-push-2.ensures.ok)

pub returns : goal.returns
returns c D =
    let R = c.args.state.now in
    let x = c.args.left in
    let names = c.loop-reached.reached in
    let said = subst (λ l. ReachesOne c.in_ok-name.field-0 R x l c.loop-reached.steps c.reach.new.steps) c.as_slice.ensures c.in_ok-name.ensures in
    let on = search_goes_on c.in_ok-name.field-0 R x c.args.right names c.loop-reached.steps c.reach.new.steps c.requires c.loop-reached.invariant.1 said in
    absurd (c.in_default.not-Some on.0 on.1)
