use Rattle.std.proofs.Common.{subst, sym}
use Rattle.mz_tree.specs.Saying.{Says}
use Rattle.mz_tree.specs.View.{plain_atom, plain_atoms}
use Rattle.mz_index.specs.Finding.{InClass}
use Rattle.mz_index.specs.Labels.{AreLabels}
use Rattle.mz_index.specs.Tests.{Passes}
use Rattle.mz_index.specs.Questions.{plain_test}
use Rattle.mz_index.proofs.Found.{is_from, none_next, none_from}
use Rattle.mz_index.proofs.test.first_from.Goals as goal

pub returns-then-branch : goal.returns-then-branch
returns-then-branch c =
    let R = plain_atoms c.args.atoms.now in
    let said = c.in_ok-suits.ensures R (subst (λ l. AreLabels l R) (sym c.as_slice.ensures) c.in_ok-links.ensures) in
    is_from c.args.atoms.now c.args.name c.args.from c.loop-i.i (plain_test c.args.test.now) c.index-atoms-i.result c.loop-i.auto.i c.loop-i-test.true c.index-atoms-i.is (subst (λ b. Says b (InClass R c.args.name (Passes R (plain_test c.args.test.now)) (plain_atom c.index-atoms-i.result))) c.if-branch.true said) c.loop-i.invariant

pub loop-i-preserved : goal.loop-i-preserved
loop-i-preserved c =
    let R = plain_atoms c.args.atoms.now in
    let said = c.in_ok-suits.ensures R (subst (λ l. AreLabels l R) (sym c.as_slice.ensures) c.in_ok-links.ensures) in
    none_next c.args.atoms.now c.args.name c.args.from c.loop-i.i (plain_test c.args.test.now) c.index-atoms-i.result c.loop-i-test.true c.index-atoms-i.is (subst (λ b. Says b (InClass R c.args.name (Passes R (plain_test c.args.test.now)) (plain_atom c.index-atoms-i.result))) c.if-branch.false said) c.loop-i.invariant

pub returns : goal.returns
returns c = none_from c.args.atoms.now c.args.name c.args.from c.loop-i.i (plain_test c.args.test.now) c.loop-i-test.false c.loop-i.invariant
