use Rattle.std.proofs.Common.{Err, sym, ap, ◌∙◌, subst}
use Rattle.std.proofs.lemmas.Result.{err_from_is_err_and}
use Rattle.mz_tree.specs.Code.{Take_op}
use Rattle.mz_tree.specs.View.{plain_atom}
use Rattle.mz_decl.specs.View.{plain_decls}
use Rattle.mz_elab.specs.Doing.{ActsOr}
use Rattle.mz_elab.proofs.Adopters.{not_taken}
use Rattle.mz_elab.proofs.adopting.take_block.Goals as goal

pub returns-in_err-meet_or : goal.returns-in_err-meet_or
returns-in_err-meet_or c =
    let D = plain_decls c.args.decls.now in
    let p = err_from_is_err_and c.from_residual-in_err-meet_or.result c.from_residual-in_err-meet_or.ensures.1 in
    subst (λ r. ActsOr {A = Unit {0}} D c.args.state.now c.args.next c.args.to (Take_op c.args.block c.args.adopter) c.args.place c.meet_or.new.state c.args.next r) (sym (p.1 ∙ ap Err p.2))
    (not_taken D c.args.state.now c.args.next c.args.to c.args.block c.args.adopter c.in_ok-found.found.adopted c.in_ok-found.found.place c.args.place c.find_adopter.new.state c.meet_or.new.state (plain_atom c.dynamic-goal.result) c.in_err-meet_or.field-0.0 c.in_ok-found.ensures c.dynamic-goal.ensures c.in_err-meet_or.ensures)
