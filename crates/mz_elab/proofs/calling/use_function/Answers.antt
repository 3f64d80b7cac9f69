use Rattle.std.proofs.Common.{Err, ap, ◌∙◌, sym, subst}
use Rattle.std.proofs.lemmas.Result.{err_from_is_err_and}
use Rattle.mz_tree.specs.View.{plain_atoms, plain_sig}
use Rattle.mz_decl.specs.View.{plain_decls}
use Rattle.mz_elab.specs.Acting.{FindsFunction}
use Rattle.mz_elab.specs.Calling.{UsesOr}
use Rattle.mz_elab.proofs.Called.{finds, used, unused}
use Rattle.mz_elab.proofs.calling.use_function.Goals as goal

pub returns-in_err-meet_needs : goal.returns-in_err-meet_needs
returns-in_err-meet_needs c =
    let D = plain_decls c.args.decls.now in
    let sig = plain_sig c.sig_in-sig.result.now in
    let p = err_from_is_err_and c.from_residual-in_err-meet_needs.result c.from_residual-in_err-meet_needs.ensures.1 in
    subst (λ r. UsesOr D c.args.state.now c.args.callee c.args.args.now c.args.place c.meet_needs.new.state r) (sym (p.1 ∙ ap Err p.2))
    (unused D c.args.state.now c.args.callee c.args.args.now sig (plain_atoms c.as_slice-goals.result.now) c.args.place c.meet_needs.new.state
    (ap plain_atoms c.as_slice-goals.ensures ∙ c.in_ok-wanted.ensures)
    c.in_err-meet_needs.field-0.0
    (subst (λ n. FindsFunction D c.args.state.now c.args.callee n sig) c.len.ensures (finds D c.args.state.now c.args.callee c.len.result c.in_ok-at.at c.in_ok-at.ensures sig c.sig_in-sig.ensures))
    c.in_err-meet_needs.ensures)

pub returns : goal.returns
returns c =
    let D = plain_decls c.args.decls.now in
    let sig = plain_sig c.sig_in-sig.result.now in
    used D c.args.state.now c.args.callee c.args.args.now sig (plain_atoms c.as_slice-goals.result.now) c.args.place c.meet_needs.new.state
    (ap plain_atoms c.as_slice-goals.ensures ∙ c.in_ok-wanted.ensures)
    (subst (λ n. FindsFunction D c.args.state.now c.args.callee n sig) c.len.ensures (finds D c.args.state.now c.args.callee c.len.result c.in_ok-at.at c.in_ok-at.ensures sig c.sig_in-sig.ensures))
    c.in_ok-meet_needs.ensures
