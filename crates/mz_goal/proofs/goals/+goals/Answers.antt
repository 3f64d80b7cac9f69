use Rattle.std.proofs.Common.{arith, subst, sym, ap, ◌≡◌}
use Rattle.mz_tree.specs.Plain.{Named_type}
use Rattle.mz_tree.specs.View.{plain_atom, plain_atoms, plain_ty}
use Rattle.mz_decl.specs.View.{plain_decls}
use Rattle.mz_index.specs.Finding.{NoneFits}
use Rattle.mz_goal.specs.Goals.{Serves}
use Rattle.mz_goal.specs.Answers.{Did, Likes}
use Rattle.mz_goal.specs.Folding.{Opens}
use Rattle.mz_goal.specs.Free.{free}
use Rattle.mz_goal.specs.Marked.{entries}
use Rattle.mz_goal.proofs.Unique.{not_folded}
use Rattle.mz_goal.proofs.Fields.{left_all, one_more, no_more, all_done, opened_less, is_whole, fold_done, fold_refused}
use Rattle.mz_goal.proofs.goals.+goals.Goals as goal

-- no block may be folded
pub fold-returns-in-None : goal.fold-returns-in-None
fold-returns-in-None t c =
    let D = plain_decls c.args.decls.now in
    let R = entries c.args.state.now c.args.marks.now in
    not_folded D R c.args.name c.args.number c.requires.alone (subst (λ o. Opens o D R c.args.name c.args.number (entries c.open.new.state c.open.new.marks) c.args.steps.now c.open.new.steps) c.in-None.is c.in_ok-whole.ensures)

pub fold-loop-i-init : goal.fold-loop-i-init
fold-loop-i-init t c = left_all (plain_decls c.args.decls.now) c.as_slice-parts.result.now (entries c.open.new.state c.open.new.marks) c.open.new.steps

-- the block as it was opened, and one of its fields' goals
pub fold-meet-requires : goal.fold-meet-requires
fold-meet-requires t c =
    let D = plain_decls c.args.decls.now in
    let R = entries c.args.state.now c.args.marks.now in
    let O = entries c.open.new.state c.open.new.marks in
    (omega (arith, opened_less D R O c.args.name c.args.number (plain_ty c.in-Some.whole.block) (plain_atoms c.in-Some.whole.goals) c.args.steps.now c.open.new.steps (subst (λ o. Opens o D R c.args.name c.args.number O c.args.steps.now c.open.new.steps) c.in-Some.is c.in_ok-whole.ensures), c.loop-i.invariant.less), c.requires.modes)

pub fold-returns-then-not-branch : goal.fold-returns-then-not-branch
fold-returns-then-not-branch t c =
    let D = plain_decls c.args.decls.now in
    let R = entries c.args.state.now c.args.marks.now in
    let O = entries c.open.new.state c.open.new.marks in
    let S = entries c.loop-i.state c.loop-i.marks in
    let xs = c.as_slice-parts.result.now in
    fold_refused D R O c.args.name c.args.number (plain_ty c.in-Some.whole.block) (plain_atoms c.in-Some.whole.goals) (plain_atoms xs) c.args.steps.now c.open.new.steps (ap plain_atoms (sym c.as_slice-parts.ensures)) c.requires.alone
    (subst (λ o. Opens o D R c.args.name c.args.number O c.args.steps.now c.open.new.steps) c.in-Some.is c.in_ok-whole.ensures)
    (no_more D xs c.loop-i.i c.index-parts-i.result O S c.open.new.steps c.loop-i.steps c.loop-i-test.true c.index-parts-i.is
    (subst (λ b. Did b D S (plain_atom c.index-parts-i.result) (entries c.meet.new.state c.meet.new.marks) c.loop-i.steps c.meet.new.steps) c.if-not-branch.true c.in_ok-meet.ensures) c.loop-i.invariant)

pub fold-loop-i-preserved : goal.fold-loop-i-preserved
fold-loop-i-preserved t c =
    let D = plain_decls c.args.decls.now in
    let S = entries c.loop-i.state c.loop-i.marks in
    let T = entries c.meet.new.state c.meet.new.marks in
    one_more D c.as_slice-parts.result.now c.loop-i.i c.index-parts-i.result (entries c.open.new.state c.open.new.marks) S T c.open.new.steps c.loop-i.steps c.meet.new.steps c.loop-i-test.true c.index-parts-i.is
    (subst (λ b. Did b D S (plain_atom c.index-parts-i.result) T c.loop-i.steps c.meet.new.steps) c.if-not-branch.false c.in_ok-meet.ensures) c.loop-i.invariant

pub fold-close-requires-clause-whole : goal.fold-close-requires-clause-whole
fold-close-requires-clause-whole t c =
    let D = plain_decls c.args.decls.now in
    let R = entries c.args.state.now c.args.marks.now in
    let O = entries c.open.new.state c.open.new.marks in
    is_whole D R O c.args.name c.args.number (plain_ty c.in-Some.whole.block) (plain_atoms c.in-Some.whole.goals) c.args.steps.now c.open.new.steps (subst (λ o. Opens o D R c.args.name c.args.number O c.args.steps.now c.open.new.steps) c.in-Some.is c.in_ok-whole.ensures)

pub fold-returns : goal.fold-returns
fold-returns t c =
    let D = plain_decls c.args.decls.now in
    let R = entries c.args.state.now c.args.marks.now in
    let O = entries c.open.new.state c.open.new.marks in
    let S = entries c.loop-i.state c.loop-i.marks in
    let xs = c.as_slice-parts.result.now in
    fold_done D R O S (entries c.close.new.state c.close.new.marks) c.args.name c.args.number (plain_ty c.in-Some.whole.block) (plain_atoms c.in-Some.whole.goals) (plain_atoms xs) c.args.steps.now c.open.new.steps c.loop-i.steps c.close.new.steps (ap plain_atoms (sym c.as_slice-parts.ensures)) c.requires.alone
    (subst (λ o. Opens o D R c.args.name c.args.number O c.args.steps.now c.open.new.steps) c.in-Some.is c.in_ok-whole.ensures)
    (all_done D xs c.loop-i.i O S c.open.new.steps c.loop-i.steps (omega arith) c.loop-i.invariant) c.in_ok-close.ensures

-- no permission is alike, and all is as before
pub meet-fold-requires : goal.meet-fold-requires
meet-fold-requires t c =
    let D = plain_decls c.args.decls.now in
    let R = entries c.args.state.now c.args.marks.now in
    let T = entries c.alike.new.state c.alike.new.marks in
    let none = subst (λ b. Likes b D R c.in-Has.name (plain_ty c.in-Has.ty) T c.args.steps.now c.alike.new.steps) c.if-branch.false c.in_ok-alike-in-Has.ensures in
    let less : free T ≡ free R = ap free none.2 in
    (omega (arith, less), (c.requires.modes, subst (λ L. NoneFits (Serves L c.in-Has.name (Named_type c.in-Some.number)) L) (sym none.2) (subst (λ u. NoneFits (Serves R c.in-Has.name u) R) c.in-Some.ensures none.0)))

pub meet-dynamic-requires-clause-alone : goal.meet-dynamic-requires-clause-alone
meet-dynamic-requires-clause-alone t c =
    let D = plain_decls c.args.decls.now in
    let R = entries c.args.state.now c.args.marks.now in
    let T = entries c.alike.new.state c.alike.new.marks in
    let none = subst (λ b. Likes b D R c.in-Has.name (plain_ty c.in-Has.ty) T c.args.steps.now c.alike.new.steps) c.if-branch.false c.in_ok-alike-in-Has.ensures in
    subst (λ L. NoneFits (Serves L c.in-Has.name (plain_ty c.in-Has.ty)) L) (sym none.2) none.0
