use Rattle.std.proofs.Common.{Err, sym, ap, ◌∙◌, subst}
use Rattle.std.proofs.lemmas.Result.{err_from_is_err_and}
use Rattle.mz_tree.specs.Code.{Give_op}
use Rattle.mz_tree.specs.View.{plain_atom}
use Rattle.mz_decl.specs.View.{plain_decls}
use Rattle.mz_elab.specs.Doing.{ActsOr}
use Rattle.mz_elab.proofs.Adopters.{not_given}
use Rattle.mz_elab.proofs.adopting.give_block.Goals as goal

pub returns-in_err-meet_beside : goal.returns-in_err-meet_beside
returns-in_err-meet_beside c =
    let D = plain_decls c.args.decls.now in
    let p = err_from_is_err_and c.from_residual-in_err-meet_beside.result c.from_residual-in_err-meet_beside.ensures.1 in
    subst (λ r. ActsOr {A = Unit {0}} D c.args.state.now c.args.next c.args.to (Give_op c.args.block c.args.adopter) c.args.place c.meet_beside.new.state c.args.next r) (sym (p.1 ∙ ap Err p.2))
    (not_given D c.args.state.now c.args.next c.args.to c.args.block c.args.adopter c.in_ok-found.found.adopted c.in_ok-found.found.place c.args.place c.find_adopter.new.state c.meet_beside.new.state (plain_atom c.named-goal.result) c.in_err-meet_beside.field-0.0 c.in_ok-found.ensures c.named-goal.ensures c.in_err-meet_beside.ensures)
