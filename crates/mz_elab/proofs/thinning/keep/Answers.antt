use Rattle.std.proofs.Common.{sym, subst}
use Rattle.mz_elab.specs.Standing.{IsKnown}
use Rattle.mz_elab.proofs.Thin.{Keeping, keeping_start, keeping_next}
use Rattle.mz_elab.proofs.thinning.keep.Goals as goal

pub loop-step-init : goal.loop-step-init
loop-step-init c = λ D m. subst (Keeping D (IsKnown c.args.bound.now c.args.next) c.args.steps c.args.steps) (sym c.new-kept.ensures) (keeping_start D (IsKnown c.args.bound.now c.args.next) c.args.steps)

pub loop-step-preserved : goal.loop-step-preserved
loop-step-preserved c = λ D m. keeping_next D (IsKnown c.args.bound.now c.args.next) c.args.steps c.loop-step.left c.pop.new.self c.in-Some.step c.loop-step.kept c.keep_one.new.kept (c.loop-step.invariant D m) c.in-Some.ensures (c.in_ok-keep_one.ensures D m)
