use Rattle.std.proofs.Common.{◌++◌, ◌∷◌, ◌∙◌, [], ℕ, Some, ap}
use Rattle.mz_tree.specs.Plain.{Ty}
use Rattle.mz_tree.specs.View.{plain_ty, plain_atom}
use Rattle.mz_decl.specs.View.{plain_decls}
use Rattle.mz_view.specs.Steps.{plain_steps, Copy_step}
use Rattle.mz_index.specs.Classes.{AreAlike}
use Rattle.mz_goal.specs.Goals.{atoms}
use Rattle.mz_goal.specs.Marked.{entries}
use Rattle.mz_goal.proofs.Reached.{pushed}
use Rattle.mz_goal.proofs.Serving.{entry_within, is_offer, not_equation, offer_joined, offer_alike, kept_ok}
use Rattle.mz_goal.proofs.taking.keep.Goals as goal

pub at-requires : goal.at-requires
at-requires c = entry_within c.args.state.now c.args.marks.now c.args.place c.requires.offer.entry c.requires.offer.first.stands

pub bring-requires-clause-joined : goal.bring-requires-clause-joined
bring-requires-clause-joined c =
    let R = c.args.state.now in
    let M = c.args.marks.now in
    let e = c.requires.offer.entry in
    let o = c.requires.offer.first.fits in
    let P = λ (u : Ty ℕ). AreAlike (atoms (entries R M)) u (plain_ty c.args.ty.now) in
    let is = is_offer R M c.args.name P c.args.place e (plain_atom c.at.result.now) c.in-Has.subject (plain_ty c.in-Has.found) c.requires.offer.first.stands o c.at.ensures (ap plain_atom c.in-Has.is) in
    offer_joined R M c.args.name c.in-Has.subject P e o is.0

pub bring-requires-clause-alike : goal.bring-requires-clause-alike
bring-requires-clause-alike c =
    let R = c.args.state.now in
    let M = c.args.marks.now in
    let e = c.requires.offer.entry in
    let o = c.requires.offer.first.fits in
    let P = λ (u : Ty ℕ). AreAlike (atoms (entries R M)) u (plain_ty c.args.ty.now) in
    let is = is_offer R M c.args.name P c.args.place e (plain_atom c.at.result.now) c.in-Has.subject (plain_ty c.in-Has.found) c.requires.offer.first.stands o c.at.ensures (ap plain_atom c.in-Has.is) in
    offer_alike R M c.args.name (plain_ty c.args.ty.now) (plain_ty c.in-Has.found) e o is.1

pub returns-in-Same : goal.returns-in-Same
returns-in-Same c =
    let R = c.args.state.now in
    let M = c.args.marks.now in
    let P = λ (u : Ty ℕ). AreAlike (atoms (entries R M)) u (plain_ty c.args.ty.now) in
    absurd (not_equation R M c.args.name P c.args.place c.requires.offer.entry (plain_atom c.at.result.now) c.in-Same.left c.in-Same.right c.requires.offer.first.stands c.requires.offer.first.fits c.at.ensures (ap plain_atom c.in-Same.is))

pub returns-in_ok-push-in-Has : goal.returns-in_ok-push-in-Has
returns-in_ok-push-in-Has c =
    let R = c.args.state.now in
    let M = c.args.marks.now in
    let e = c.requires.offer.entry in
    let o = c.requires.offer.first.fits in
    let t = plain_ty c.args.ty.now in
    let u = plain_ty c.in-Has.found in
    let P = λ (u : Ty ℕ). AreAlike (atoms (entries R M)) u t in
    let found = c.at.ensures ∙ ap (λ b. Some (plain_atom b)) c.in-Has.is in
    let is = is_offer R M c.args.name P c.args.place e (plain_atom c.at.result.now) c.in-Has.subject u c.requires.offer.first.stands o c.at.ensures (ap plain_atom c.in-Has.is) in
    let old = plain_steps c.args.steps.now in
    kept_ok c.bring.result (plain_decls c.args.decls.now) R M c.args.name c.in-Has.subject c.args.place t u c.args.steps.now c.push.new.self c.bring.new.steps c.requires.known c.requires.duplicable (offer_alike R M c.args.name t u e o is.1) c.requires.offer found
    (pushed c.args.steps.now c.push.new.self _ c.in_ok-push-in-Has.ensures.ok ∙ ap (λ b. old ++ Copy_step b ∷ []) c.in_ok-has-in-Has.ensures) (c.bring.ensures (plain_decls c.args.decls.now) c.requires.modes)
