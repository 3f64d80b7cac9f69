use Rattle.std.proofs.Common.{Err, map, reverse, sym, ap, ◌∙◌, subst}
use Rattle.std.proofs.lemmas.Result.{err_from_is_err_and}
use Rattle.mz_tree.specs.Code.{brace_of}
use Rattle.mz_tree.specs.View.{plain_atoms, plain_body, plain_fun, plain_sig}
use Rattle.mz_tree.proofs.CodeViews.{brace_of_body, result_of_body}
use Rattle.mz_decl.specs.Signatures.{needed, owed}
use Rattle.mz_decl.specs.View.{plain_decls}
use Rattle.mz_deriv.specs.View.{plain_item}
use Rattle.mz_goal.specs.Needs.{Needs}
use Rattle.mz_elab.specs.Elaborating.{FunOr}
use Rattle.mz_elab.specs.Joining.{MeetsGoals}
use Rattle.mz_elab.specs.Scoping.{ScopedBody}
use Rattle.mz_elab.specs.Standing.{IsKnown}
use Rattle.mz_elab.specs.Walking.{BodyOr, WalksTo}
use Rattle.mz_elab.proofs.WholeFunctions.{body_fault, end_fault, fun_guided}
use Rattle.mz_elab.proofs.elaborating.elaborate_fun.Goals as goal

pub walk-requires-clause-scoped : goal.walk-requires-clause-scoped
walk-requires-clause-scoped c =
    let D = plain_decls c.args.decls.now in
    subst (λ l. ScopedBody D l (plain_body c.args.fun.now.body)) (sym (ap reverse c.as_slice-2.ensures ∙ c.in_ok-bound.ensures)) (c.requires.scoped (plain_sig c.sig-sig.result.now) c.sig-sig.ensures)

pub returns-in_err-end : goal.returns-in_err-end
returns-in_err-end c =
    let D = plain_decls c.args.decls.now in
    let f = plain_fun c.args.fun.now in
    let sig = plain_sig c.sig-sig.result.now in
    let names = ap reverse c.as_slice-2.ensures ∙ c.in_ok-bound.ensures in
    let start = c.in_ok-begun.ensures ∙ c.in_ok-state_of.ensures ∙ ap plain_atoms c.as_slice.ensures ∙ c.in_ok-needs.ensures in
    let p = err_from_is_err_and c.from_residual-in_err-end.result c.from_residual-in_err-end.ensures.1 in
    subst (λ r. FunOr D f r) (sym (p.1 ∙ ap Err p.2))
    (body_fault D f sig c.sig-sig.ensures c.walk.new.next c.in_err-end.field-0.0
    (subst (λ l. BodyOr D l (needed sig.needs) 256 f.body c.walk.new.next (Err c.in_err-end.field-0.0)) names
    (subst (λ R. BodyOr D (reverse c.as_slice-2.result.now) R 256 f.body c.walk.new.next (Err c.in_err-end.field-0.0)) start c.in_err-end.ensures)))

pub returns-in_err-meet_goals : goal.returns-in_err-meet_goals
returns-in_err-meet_goals c =
    let D = plain_decls c.args.decls.now in
    let f = plain_fun c.args.fun.now in
    let sig = plain_sig c.sig-sig.result.now in
    let names = ap reverse c.as_slice-2.ensures ∙ c.in_ok-bound.ensures in
    let start = c.in_ok-begun.ensures ∙ c.in_ok-state_of.ensures ∙ ap plain_atoms c.as_slice.ensures ∙ c.in_ok-needs.ensures in
    let e = c.in_ok-end.end in
    let walked =
    subst (λ l. WalksTo D l (needed sig.needs) 256 f.body c.walk.new.next e) names
    (subst (λ R. WalksTo D (reverse c.as_slice-2.result.now) R 256 f.body c.walk.new.next e) start c.in_ok-end.ensures) in
    let owes = ap plain_atoms c.as_slice-4.ensures ∙ c.in_ok-goals.ensures ∙ ap (owed sig) (sym (result_of_body c.args.fun.now.body)) in
    let K = IsKnown c.as_slice-3.result.now c.walk.new.next in
    let p = err_from_is_err_and c.from_residual-in_err-meet_goals.result c.from_residual-in_err-meet_goals.ensures.1 in
    let fault = c.in_err-meet_goals.field-0.0 in
    let T = c.meet_goals.new.state in
    let before = map plain_item e.items in
    let after = map plain_item c.meet_goals.new.items in
    subst (λ r. FunOr D f r) (sym (p.1 ∙ ap Err p.2))
    (end_fault D f sig c.sig-sig.ensures c.walk.new.next e walked K T before after fault
    (subst (λ l. MeetsGoals {A = Unit {0}} D K e.state l (brace_of f.body) T before after (Err fault)) owes
    (subst (λ place. MeetsGoals {A = Unit {0}} D K e.state (plain_atoms c.as_slice-4.result.now) place T before after (Err fault)) (sym (brace_of_body c.args.fun.now.body)) c.in_err-meet_goals.ensures)))

pub returns : goal.returns
returns c =
    let D = plain_decls c.args.decls.now in
    let f = plain_fun c.args.fun.now in
    let sig = plain_sig c.sig-sig.result.now in
    let names = ap reverse c.as_slice-2.ensures ∙ c.in_ok-bound.ensures in
    let start = c.in_ok-begun.ensures ∙ c.in_ok-state_of.ensures ∙ ap plain_atoms c.as_slice.ensures ∙ c.in_ok-needs.ensures in
    let e = c.in_ok-end.end in
    let walked =
    subst (λ l. WalksTo D l (needed sig.needs) 256 f.body c.walk.new.next e) names
    (subst (λ R. WalksTo D (reverse c.as_slice-2.result.now) R 256 f.body c.walk.new.next e) start c.in_ok-end.ensures) in
    let owes = ap plain_atoms c.as_slice-4.ensures ∙ c.in_ok-goals.ensures ∙ ap (owed sig) (sym (result_of_body c.args.fun.now.body)) in
    fun_guided D f sig c.sig-sig.ensures c.walk.new.next e walked c.meet_goals.new.state (subst (λ l. Needs D e.state l c.meet_goals.new.state) owes c.in_ok-meet_goals.ensures.0)
