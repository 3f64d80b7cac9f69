use Rattle.std.proofs.Common.{◌≡◌, None, ap, subst, refl}
use Rattle.mz_tree.specs.Plain.{Unknown_type}
use Rattle.mz_tree.specs.Saying.{Says}
use Rattle.mz_tree.specs.View.{plain_ty}
use Rattle.mz_decl.specs.View.{plain_decls}
use Rattle.mz_goal.specs.Marked.{entries}
use Rattle.mz_goal.specs.Offering.{Alike_wanted, FirstOffer}
use Rattle.mz_goal.proofs.Reached.{pushed}
use Rattle.mz_goal.proofs.Serving.{unknown_met}
use Rattle.mz_goal.proofs.taking.alike.Goals as goal

pub returns-then-is_unknown : goal.returns-then-is_unknown
returns-then-is_unknown c = unknown_met (plain_decls c.args.decls.now) c.args.state.now c.args.marks.now c.args.name (plain_ty c.args.ty.now) c.args.steps.now c.push.new.self (subst (λ b. Says b (plain_ty c.args.ty.now ≡ Unknown_type)) c.if-is_unknown.true c.is_unknown.ensures) (pushed c.args.steps.now c.push.new.self _ c.in_ok-push.ensures.ok)

pub returns-in-None : goal.returns-in-None
returns-in-None c =
    let D = plain_decls c.args.decls.now in
    let E = entries c.args.state.now c.args.marks.now in
    let wanted = ap (λ t. Alike_wanted (plain_ty t)) c.in_ok-copy.ensures in
    let none = subst (λ w. FirstOffer D E c.args.name w None) wanted (subst (FirstOffer D E c.args.name (Alike_wanted (plain_ty c.in_ok-copy.field-0))) c.in-None.is c.in_ok-first_offer.ensures) in
    (none, subst (λ b. Says b (plain_ty c.args.ty.now ≡ Unknown_type)) c.if-is_unknown.false c.is_unknown.ensures, refl, refl)
