use Rattle.std.proofs.Common.{IsTrue, sym, ap, ◌∙◌}
use Rattle.mz_tree.specs.View.{plain_ty}
use Rattle.mz_tree.proofs.Views.{same_plain_ty}
use Rattle.mz_index.specs.Labels.{label}
use Rattle.mz_index.proofs.Labelled.{labelled_alike, alike_labelled}
use Rattle.mz_index.proofs.likeness.are_alike.Goals as goal

pub returns-then-same : goal.returns-then-same
returns-then-same c = λ R h. labelled_alike R (label c.args.links.now) h (plain_ty c.args.left.now) (plain_ty c.args.right.now) (sym c.in_ok-one.ensures ∙ ap plain_ty (c.same.ensures.0 c.if-same.true) ∙ c.in_ok-other.ensures)

pub returns : goal.returns
returns c = λ R h a.
    let e = alike_labelled R (label c.args.links.now) h (plain_ty c.args.left.now) (plain_ty c.args.right.now) a in
    let p : IsTrue c.same.result = c.same.ensures.1 (same_plain_ty c.in_ok-one.one c.in_ok-other.other (c.in_ok-one.ensures ∙ e ∙ sym c.in_ok-other.ensures)) in
    absurd (cc)
