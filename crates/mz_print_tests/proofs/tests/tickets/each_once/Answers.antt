use Rattle.std.proofs.Common.{◌≡◌, ◌==◌, ◌<◌, length, count_by, take_all, inl, inr, sym, ◌∙◌, subst, arith}
use Rattle.std.specs.Prelude.{All}
use Rattle.std.proofs.lemmas.Bool.{cases_eq}
use Rattle.std.proofs.lemmas.List.Elements.{All-more}
use Rattle.mz_print_tests.proofs.tests.tickets.each_once.Goals as goal

pub loop-entry-preserved : goal.loop-entry-preserved
loop-entry-preserved c = λ k d h. All-more (λ e. e.seen < length c.args.prints.now) c.args.prints.now c.loop-entry.entry-index _ c.loop-entry-test.true c.loop-entry.invariant c.if-entry-prints.false k d h

pub loop-ticket-preserved : goal.loop-ticket-preserved
loop-ticket-preserved c = λ ticket h. elim (cases_eq ticket c.loop-ticket.ticket) [
  | inl same ↦ subst (λ t. count_by (λ e. e.seen == t) c.args.prints.now ≡ 1) (sym same) (sym c.drawn.ensures ∙ c.if-drawn-ne1.false)
  | inr other ↦ c.loop-ticket.invariant ticket (omega (arith, h, other))
]

pub returns : goal.returns
returns c = λ _. record {
  within = subst (All (λ e. e.seen < length c.args.prints.now)) (take_all c.loop-entry.entry-index c.args.prints.now c.loop-entry-test.false) c.loop-entry.invariant;
  once = λ ticket h. c.loop-ticket.invariant ticket (omega (arith, h, c.loop-ticket-test.false));
}
