use Rattle.std.proofs.Common.{subst}
use Rattle.mz_tree.specs.Plain.{Block_type, Has_atom}
use Rattle.mz_tree.specs.Saying.{Says}
use Rattle.mz_tree.specs.View.{plain_ty, plain_atoms}
use Rattle.mz_decl.specs.View.{plain_decls}
use Rattle.mz_modes.specs.Affine.{ExclusiveTy}
use Rattle.mz_goal.proofs.Wholes.{offer_stands, offer_subject, found_stands, found_joined, found_plain, opens_mutable, opens_immutable}
use Rattle.mz_goal.proofs.folding.open_at.Goals as goal

pub subject_at-subject-requires : goal.subject_at-subject-requires
subject_at-subject-requires c =
    let o = c.requires.offer in
    let f = o.first.fits in
    (Has_atom f.name (Block_type f.con f.names f.adopts), offer_stands (plain_decls c.args.decls.now) c.args.state.now c.args.marks.now c.args.name c.args.number c.args.place 0 (Block_type f.con f.names f.adopts) o)

pub type_at-requires : goal.type_at-requires
type_at-requires c =
    let o = c.requires.offer in
    let f = o.first.fits in
    (f.name, Block_type f.con f.names f.adopts, offer_stands (plain_decls c.args.decls.now) c.args.state.now c.args.marks.now c.args.name c.args.number c.args.place 0 (Block_type f.con f.names f.adopts) o)

pub take_out-requires-clause-stands : goal.take_out-requires-clause-stands
take_out-requires-clause-stands c =
    let D = plain_decls c.args.decls.now in
    let o = c.requires.offer in
    let f = o.first.fits in
    let s = c.subject_at-subject.result in
    let b = plain_ty c.in_ok-block.block in
    let at = offer_stands D c.args.state.now c.args.marks.now c.args.name c.args.number c.args.place s b o in
    let e = offer_subject D c.args.state.now c.args.marks.now c.args.name c.args.number c.args.place s b o c.subject_at-subject.ensures in
    found_stands D c.args.state.now c.args.marks.now c.args.name c.args.number c.args.place s b o e (c.in_ok-block.ensures f.name (Block_type f.con f.names f.adopts) at)

pub take_out-requires-clause-joined : goal.take_out-requires-clause-joined
take_out-requires-clause-joined c =
    let D = plain_decls c.args.decls.now in
    let o = c.requires.offer in
    let s = c.subject_at-subject.result in
    let b = plain_ty c.in_ok-block.block in
    found_joined D c.args.state.now c.args.marks.now c.args.name c.args.number c.args.place s b o (offer_subject D c.args.state.now c.args.marks.now c.args.name c.args.number c.args.place s b o c.subject_at-subject.ensures)

pub returns-then-exclusive : goal.returns-then-exclusive
returns-then-exclusive c =
    let D = plain_decls c.args.decls.now in
    let R = c.args.state.now in
    let M = c.args.marks.now in
    let o = c.requires.offer in
    let f = o.first.fits in
    let s = c.subject_at-subject.result in
    let b = plain_ty c.in_ok-block.block in
    let at = offer_stands D R M c.args.name c.args.number c.args.place s b o in
    let e = offer_subject D R M c.args.name c.args.number c.args.place s b o c.subject_at-subject.ensures in
    let is = c.in_ok-block.ensures f.name (Block_type f.con f.names f.adopts) at in
    let ex = subst (λ r. Says r (ExclusiveTy D b)) c.if-exclusive.true (c.exclusive.ensures D c.requires.modes) in
    opens_mutable D R M c.args.name c.args.number c.args.place s b o c.take_out.new.state c.take_out.new.marks (plain_atoms c.in_ok-goals.goals) c.args.steps.now c.take_out.new.steps e is ex (c.in_ok-goals.ensures f.con f.names f.adopts f.made is f.is_con) c.in_ok-take_out.ensures.opened c.in_ok-take_out.ensures.leads

pub leave-requires-clause-stands : goal.leave-requires-clause-stands
leave-requires-clause-stands c =
    let D = plain_decls c.args.decls.now in
    let o = c.requires.offer in
    let f = o.first.fits in
    let s = c.subject_at-subject.result in
    let b = plain_ty c.in_ok-block.block in
    let at = offer_stands D c.args.state.now c.args.marks.now c.args.name c.args.number c.args.place s b o in
    let e = offer_subject D c.args.state.now c.args.marks.now c.args.name c.args.number c.args.place s b o c.subject_at-subject.ensures in
    found_stands D c.args.state.now c.args.marks.now c.args.name c.args.number c.args.place s b o e (c.in_ok-block.ensures f.name (Block_type f.con f.names f.adopts) at)

pub leave-requires-clause-joined : goal.leave-requires-clause-joined
leave-requires-clause-joined c =
    let D = plain_decls c.args.decls.now in
    let o = c.requires.offer in
    let s = c.subject_at-subject.result in
    let b = plain_ty c.in_ok-block.block in
    found_joined D c.args.state.now c.args.marks.now c.args.name c.args.number c.args.place s b o (offer_subject D c.args.state.now c.args.marks.now c.args.name c.args.number c.args.place s b o c.subject_at-subject.ensures)

pub leave-requires-clause-plain : goal.leave-requires-clause-plain
leave-requires-clause-plain c =
    let D = plain_decls c.args.decls.now in
    let o = c.requires.offer in
    let f = o.first.fits in
    let s = c.subject_at-subject.result in
    let b = plain_ty c.in_ok-block.block in
    let at = offer_stands D c.args.state.now c.args.marks.now c.args.name c.args.number c.args.place s b o in
    let is = c.in_ok-block.ensures f.name (Block_type f.con f.names f.adopts) at in
    found_plain D c.args.state.now c.args.marks.now c.args.name c.args.number c.args.place s b o is (subst (λ r. Says r (ExclusiveTy D b)) c.if-exclusive.false (c.exclusive.ensures D c.requires.modes))

pub returns : goal.returns
returns c =
    let D = plain_decls c.args.decls.now in
    let R = c.args.state.now in
    let M = c.args.marks.now in
    let o = c.requires.offer in
    let f = o.first.fits in
    let s = c.subject_at-subject.result in
    let b = plain_ty c.in_ok-block.block in
    let at = offer_stands D R M c.args.name c.args.number c.args.place s b o in
    let e = offer_subject D R M c.args.name c.args.number c.args.place s b o c.subject_at-subject.ensures in
    let is = c.in_ok-block.ensures f.name (Block_type f.con f.names f.adopts) at in
    let plain = subst (λ r. Says r (ExclusiveTy D b)) c.if-exclusive.false (c.exclusive.ensures D c.requires.modes) in
    opens_immutable D R M c.args.name c.args.number c.args.place s b o c.leave.new.marks (plain_atoms c.in_ok-goals.goals) c.args.steps.now c.leave.new.steps e is plain (c.in_ok-goals.ensures f.con f.names f.adopts f.made is f.is_con) c.in_ok-leave.ensures.opened c.in_ok-leave.ensures.leads
