use Rattle.std.proofs.Common.{◌+◌, [], take, sym, ap, subst, ◌∙◌}
use Rattle.std.proofs.lemmas.List.{take_all}
use Rattle.mz_tree.specs.View.{plain_ty, plain_atoms}
use Rattle.mz_index.specs.Labels.{AreLabels, label}
use Rattle.mz_index.proofs.Labelling.{none_joined, type_next, equation_next, next_plain}
use Rattle.mz_index.proofs.labels.links_of.Goals as goal
use Rattle.mz_index.proofs.labels.links_of.Goals.{in-Has, in-Same+in_ok-push-in-Same}

pub loop-i-init : goal.loop-i-init
loop-i-init c = subst (λ l. AreLabels l []) (sym c.new-links.ensures) none_joined

pub loop-i-preserved : goal.loop-i-preserved
loop-i-preserved c = elim c.match-atoms-i.branch [
  | in-Has w ↦ type_next c.loop-i.links c.match-atoms-i.links (plain_atoms (take c.loop-i.i c.args.atoms.now)) (plain_atoms (take (c.loop-i.i + 1) c.args.atoms.now)) w.in-Has.name (plain_ty w.in-Has.ty)
      w.links-is (next_plain c.args.atoms.now c.loop-i.i c.index-atoms-i.result _ c.loop-i-test.true c.index-atoms-i.is w.in-Has.is) c.loop-i.invariant
  | in-Same+in_ok-push-in-Same w ↦ equation_next c.loop-i.links c.match-atoms-i.links _ (plain_atoms (take c.loop-i.i c.args.atoms.now)) (plain_atoms (take (c.loop-i.i + 1) c.args.atoms.now)) w.in-Same.left w.in-Same.right
      (w.links-is ∙ w.in_ok-push-in-Same.ensures.ok) (next_plain c.args.atoms.now c.loop-i.i c.index-atoms-i.result _ c.loop-i-test.true c.index-atoms-i.is w.in-Same.is)
      (w.label-from.ensures ∙ ap (λ l. label l w.in-Same.left) w.as_slice.ensures) (w.label-to.ensures ∙ ap (λ l. label l w.in-Same.right) w.as_slice-in-Same.ensures) c.loop-i.invariant
]

pub returns : goal.returns
returns c = subst (λ l. AreLabels c.loop-i.links (plain_atoms l)) (take_all c.loop-i.i c.args.atoms.now c.loop-i-test.false) c.loop-i.invariant
