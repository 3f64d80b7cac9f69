use Rattle.std.proofs.Common.{inl, inr, List, length, Some, refl, sym, ap, ◌∙◌, subst, option_map}
use Rattle.std.proofs.lemmas.Option.{slice_get_read, slice_get-map}
use Rattle.mz_tree.specs.View.{plain_op, plain_program}
use Rattle.mz_named.specs.Planning.{Plans, Leaves, By_command, By_end}
use Rattle.mz_named.specs.View.{plain_thread}
use Rattle.mz_named.specs.declared.config.Value.{Value as CodeValue}
use Rattle.mz_named.specs.declared.config.Suspended.{Suspended as CodeSuspended}
use Rattle.mz_named.proofs.step.look.Goals as goal

pub returns-in_ok-plan-in-Some-clause-looks : goal.returns-in_ok-plan-in-Some-clause-looks
returns-in_ok-plan-in-Some-clause-looks c = record {
  frame = c.in-Running.top;
  below = c.in-Running.below;
  here = slice_get_read c.args.threads.now.items (length c.args.threads.now.items) c.args.k c.index.result.now refl c.requires.within c.index.ensures ∙ ap Some c.in-Running.is;
  comes = By_command c.in-Some.command.now (sym c.in-Some.ensures.value)
      (subst (λ (vs : List CodeValue). Plans (plain_program c.args.program.now) c.args.cells.now.items c.args.prints.now vs c.in-Some.command.now.to (plain_op c.in-Some.command.now.op) c.in_ok-plan-in-Some.field-0 c.plan.new.cells.items c.plan.new.prints)
      c.as_slice-values.ensures c.in_ok-plan-in-Some.ensures.plans);
}

pub returns-in_ok-leave-in-None-clause-looks : goal.returns-in_ok-leave-in-None-clause-looks
returns-in_ok-leave-in-None-clause-looks c = record {
  frame = c.in-Running.top;
  below = c.in-Running.below;
  here = slice_get_read c.args.threads.now.items (length c.args.threads.now.items) c.args.k c.index.result.now refl c.requires.within c.index.ensures ∙ ap Some c.in-Running.is;
  comes = By_end (sym c.in-None.ensures.value)
      (subst (λ (l : List CodeSuspended). Leaves c.in-Running.top l c.in_ok-leave-in-None.field-0) c.deref.ensures.value c.in_ok-leave-in-None.ensures) refl refl;
}

pub returns-in-Ended-clause-looks : goal.returns-in-Ended-clause-looks
returns-in-Ended-clause-looks c = (
  inl (slice_get-map plain_thread c.args.threads.now.items c.args.k
      ∙ ap (option_map plain_thread) (slice_get_read c.args.threads.now.items (length c.args.threads.now.items) c.args.k c.index.result.now refl c.requires.within c.index.ensures ∙ ap Some c.in-Ended.is)),
  refl,
  refl,
)

pub returns-in-Stopped-clause-looks : goal.returns-in-Stopped-clause-looks
returns-in-Stopped-clause-looks c = (
  inr (slice_get-map plain_thread c.args.threads.now.items c.args.k
      ∙ ap (option_map plain_thread) (slice_get_read c.args.threads.now.items (length c.args.threads.now.items) c.args.k c.index.result.now refl c.requires.within c.index.ensures ∙ ap Some c.in-Stopped.is)),
  refl,
  refl,
)
