use Rattle.std.proofs.Common.{◌∙◌, ℕ, Some, ap}
use Rattle.mz_tree.specs.Plain.{Ty}
use Rattle.mz_tree.specs.View.{plain_ty, plain_atom}
use Rattle.mz_decl.specs.View.{plain_decls}
use Rattle.mz_index.specs.Classes.{AreAlike}
use Rattle.mz_goal.specs.Goals.{atoms}
use Rattle.mz_goal.specs.Marked.{entries}
use Rattle.mz_goal.proofs.Serving.{entry_within, is_offer, not_equation, offer_joined, offer_alike, joined_left_over, alike_left_over, taken_ok}
use Rattle.mz_goal.proofs.taking.take_alike.Goals as goal

pub take-atom-requires : goal.take-atom-requires
take-atom-requires c = entry_within c.args.state.now c.args.marks.now c.args.place c.requires.offer.entry c.requires.offer.first.stands

pub returns-in-Same : goal.returns-in-Same
returns-in-Same c =
    let R = c.args.state.now in
    let M = c.args.marks.now in
    let P = λ (u : Ty ℕ). AreAlike (atoms (entries R M)) u (plain_ty c.args.ty.now) in
    absurd (not_equation R M c.args.name P c.args.place c.requires.offer.entry (plain_atom c.take-atom.result) c.in-Same.left c.in-Same.right c.requires.offer.first.stands c.requires.offer.first.fits c.take-atom.ensures.taken (ap plain_atom c.in-Same.is))

pub bring-requires-clause-joined : goal.bring-requires-clause-joined
bring-requires-clause-joined c =
    let R = c.args.state.now in
    let M = c.args.marks.now in
    let e = c.requires.offer.entry in
    let o = c.requires.offer.first.fits in
    let P = λ (u : Ty ℕ). AreAlike (atoms (entries R M)) u (plain_ty c.args.ty.now) in
    let u = plain_ty c.in-Has.found in
    let found = c.take-atom.ensures.taken ∙ ap (λ b. Some (plain_atom b)) c.in-Has.is in
    let is = is_offer R M c.args.name P c.args.place e (plain_atom c.take-atom.result) c.in-Has.subject u c.requires.offer.first.stands o c.take-atom.ensures.taken (ap plain_atom c.in-Has.is) in
    joined_left_over R c.take-atom.new.state c.args.place c.in-Has.subject u found c.take-atom.ensures.left c.args.name c.in-Has.subject (offer_joined R M c.args.name c.in-Has.subject P e o is.0)

pub bring-requires-clause-alike : goal.bring-requires-clause-alike
bring-requires-clause-alike c =
    let R = c.args.state.now in
    let M = c.args.marks.now in
    let e = c.requires.offer.entry in
    let o = c.requires.offer.first.fits in
    let t = plain_ty c.args.ty.now in
    let P = λ (u : Ty ℕ). AreAlike (atoms (entries R M)) u t in
    let u = plain_ty c.in-Has.found in
    let found = c.take-atom.ensures.taken ∙ ap (λ b. Some (plain_atom b)) c.in-Has.is in
    let is = is_offer R M c.args.name P c.args.place e (plain_atom c.take-atom.result) c.in-Has.subject u c.requires.offer.first.stands o c.take-atom.ensures.taken (ap plain_atom c.in-Has.is) in
    alike_left_over R c.take-atom.new.state c.args.place c.in-Has.subject u found c.take-atom.ensures.left u t (offer_alike R M c.args.name t u e o is.1)

pub returns : goal.returns
returns c =
    let R = c.args.state.now in
    let M = c.args.marks.now in
    let t = plain_ty c.args.ty.now in
    let u = plain_ty c.in-Has.found in
    let found = c.take-atom.ensures.taken ∙ ap (λ b. Some (plain_atom b)) c.in-Has.is in
    taken_ok c.bring.result (plain_decls c.args.decls.now) R c.take-atom.new.state M c.take-atom.new.marks c.args.name c.in-Has.subject c.args.place t u c.args.steps.now c.bring.new.steps c.requires.affine c.requires.offer found c.take-atom.ensures.rest c.take-atom.ensures.left (c.bring.ensures (plain_decls c.args.decls.now) c.requires.modes)
