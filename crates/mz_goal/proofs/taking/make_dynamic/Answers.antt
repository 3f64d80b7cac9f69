use Rattle.mz_decl.specs.View.{plain_decls}
use Rattle.mz_modes.specs.Affine.{ExclusiveTy}
use Rattle.mz_goal.proofs.Marking.{at_entry}
use Rattle.mz_goal.proofs.Reached.{pushed}
use Rattle.mz_goal.proofs.Serving.{is_subject, offer_joined, dynamic_ok}
use Rattle.mz_goal.proofs.taking.make_dynamic.Goals as goal

pub subject_at-subject-requires : goal.subject_at-subject-requires
subject_at-subject-requires c = (c.requires.offer.entry.atom, (at_entry c.args.state.now c.args.marks.now c.args.place c.requires.offer.entry c.requires.offer.first.stands).0)

pub rename-requires : goal.rename-requires
rename-requires c =
    let R = c.args.state.now in
    let M = c.args.marks.now in
    let e = c.requires.offer.entry in
    let o = c.requires.offer.first.fits in
    let P = ExclusiveTy (plain_decls c.args.decls.now) in
    offer_joined R M c.args.name c.subject_at-subject.result P e o (is_subject R M c.args.name P c.args.place c.subject_at-subject.result e c.requires.offer.first.stands o c.subject_at-subject.ensures)

pub returns : goal.returns
returns c =
    let D = plain_decls c.args.decls.now in
    let R = c.args.state.now in
    let M = c.args.marks.now in
    let e = c.requires.offer.entry in
    let o = c.requires.offer.first.fits in
    let P = ExclusiveTy D in
    let is = is_subject R M c.args.name P c.args.place c.subject_at-subject.result e c.requires.offer.first.stands o c.subject_at-subject.ensures in
    dynamic_ok c.add.result D R c.add.new.state M c.add.new.marks c.args.name c.subject_at-subject.result c.args.place c.args.steps.now c.push.new.self c.rename.new.steps c.push-2.new.self c.requires.offer c.requires.alone is
    (pushed c.args.steps.now c.push.new.self _ c.in_ok-push.ensures.ok) (c.in_ok-rename.ensures D c.requires.modes) (pushed c.rename.new.steps c.push-2.new.self _ c.in_ok-push-2.ensures.ok) c.add.ensures.entries
