use Rattle.std.proofs.Common.{ℕ, List, Err, map, sym, ap, ◌∙◌, subst}
use Rattle.std.proofs.lemmas.Result.{err_from_is_err_and}
use Rattle.mz_tree.specs.View.{plain_atoms, plain_sig, plain_fun}
use Rattle.mz_tree.specs.Code.{commands_in}
use Rattle.mz_tree.proofs.CodeViews.{brace_of_body, result_of_body}
use Rattle.mz_decl.specs.Signatures.{needed, owed}
use Rattle.mz_decl.specs.View.{plain_decls}
use Rattle.mz_modes.specs.Affine.{AffineAtom}
use Rattle.mz_modes.specs.Answers.{Answers}
use Rattle.mz_perm.specs.Using.{UsesUpAll, UsesUpAllBy}
use Rattle.mz_perm.proofs.Firsts.{uses_all_any}
use Rattle.mz_deriv.specs.View.{plain_item, plain_script}
use Rattle.mz_deriv.specs.Walks.{Walks}
use Rattle.mz_deriv.specs.Refused.{FunRefused}
use Rattle.mz_deriv.specs.Parts.{SameNames, Leads, Derives}
use Rattle.mz_deriv.specs.declared.fault.DerivFault.TheVariants.{BadCommand}
use Rattle.mz_deriv.proofs.FunParts.{body_refused, fun_walks, fun_owes}
use Rattle.mz_deriv.proofs.check.check_fun.Goals as goal

pub returns-in_err-walk : goal.returns-in_err-walk
returns-in_err-walk c =
    let D = plain_decls c.args.decls.now in
    let f = plain_fun c.args.fun.now in
    let sig = plain_sig c.sig-sig.result.now in
    let script = plain_script c.args.script.now in
    let start = c.in_ok-state.ensures ∙ ap plain_atoms c.as_slice.ensures ∙ c.in_ok-needs.ensures in
    let p = err_from_is_err_and c.from_residual-in_err-walk.result c.from_residual-in_err-walk.ensures.1 in
    let refused =
    subst (λ R. Leads {A = Unit {0}} D c.in_ok-names.names R f.body script c.walk.new.state (Err c.in_err-walk.field-0.0)) start
    (subst (λ l. Leads {A = Unit {0}} D c.in_ok-names.names c.in_ok-state.state f.body (map plain_item l) c.walk.new.state (Err c.in_err-walk.field-0.0)) c.as_slice-items.ensures c.in_err-walk.ensures) in
    subst (λ r. Derives {A = Unit {0}} D f script r) (sym (p.1 ∙ ap Err p.2)) (body_refused D f script sig c.sig-sig.ensures c.in_ok-names.names c.in_ok-names.ensures c.walk.new.state c.in_err-walk.field-0.0 refused)

pub returns-in-Ok : goal.returns-in-Ok
returns-in-Ok c =
    let D = plain_decls c.args.decls.now in
    let f = plain_fun c.args.fun.now in
    let sig = plain_sig c.sig-sig.result.now in
    let script = plain_script c.args.script.now in
    let start = c.in_ok-state.ensures ∙ ap plain_atoms c.as_slice.ensures ∙ c.in_ok-needs.ensures in
    let owes = c.in_ok-owed.ensures ∙ ap (owed sig) (sym (result_of_body c.args.fun.now.body)) in
    let walks : (names : List ℕ) → SameNames c.in_ok-names.names names → Walks D names (needed sig.needs) (commands_in f.body) script c.walk.new.state =
    λ names h. subst (λ R. Walks D names R (commands_in f.body) script c.walk.new.state) start (subst (λ l. Walks D names c.in_ok-state.state (commands_in f.body) (map plain_item l) c.walk.new.state) c.as_slice-items.ensures (c.in_ok-walk.ensures names h)) in
    let used = uses_all_any (AffineAtom D) (plain_atoms c.in_ok-owed.owed) c.walk.new.state c.end_rule.new.state (c.in-Ok.ensures D c.requires.modes) in
    fun_walks D f script sig c.sig-sig.ensures c.in_ok-names.names c.in_ok-names.ensures c.walk.new.state c.end_rule.new.state walks (subst (λ q. UsesUpAll (AffineAtom D) q c.walk.new.state c.end_rule.new.state) owes used)

pub returns-in-Err-NoInstance : goal.returns-in-Err-NoInstance
returns-in-Err-NoInstance c =
    let D = plain_decls c.args.decls.now in
    let f = plain_fun c.args.fun.now in
    let sig = plain_sig c.sig-sig.result.now in
    let script = plain_script c.args.script.now in
    let start = c.in_ok-state.ensures ∙ ap plain_atoms c.as_slice.ensures ∙ c.in_ok-needs.ensures in
    let owes = c.in_ok-owed.ensures ∙ ap (owed sig) (sym (result_of_body c.args.fun.now.body)) in
    let walks : (names : List ℕ) → SameNames c.in_ok-names.names names → Walks D names (needed sig.needs) (commands_in f.body) script c.walk.new.state =
    λ names h. subst (λ R. Walks D names R (commands_in f.body) script c.walk.new.state) start (subst (λ l. Walks D names c.in_ok-state.state (commands_in f.body) (map plain_item l) c.walk.new.state) c.as_slice-items.ensures (c.in_ok-walk.ensures names h)) in
    let refused = subst (λ r. Answers {A = Unit {0}} (λ which. UsesUpAllBy which (AffineAtom D) (plain_atoms c.in_ok-owed.owed) c.walk.new.state) c.walk.new.state c.end_rule.new.state (Err r)) c.in-Err-NoInstance.field-0-is (c.in-Err-NoInstance.ensures D c.requires.modes) in
    subst (λ place. FunRefused D f script (BadCommand place)) (brace_of_body c.args.fun.now.body)
    (fun_owes D f script sig c.sig-sig.ensures c.in_ok-names.names c.in_ok-names.ensures c.walk.new.state walks (λ rest u. refused.0 rest (subst (λ q. UsesUpAll (AffineAtom D) q c.walk.new.state rest) (sym owes) u)))
