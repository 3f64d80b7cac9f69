use Rattle.std.proofs.Common.{Err, ap, ◌∙◌, sym, subst, reverse}
use Rattle.std.proofs.lemmas.Result.{err_from_is_err_and}
use Rattle.mz_tree.specs.View.{plain_atoms}
use Rattle.mz_decl.specs.View.{plain_decls}
use Rattle.mz_elab.specs.Standing.{IsKnown}
use Rattle.mz_elab.specs.Joins.{Joins}
use Rattle.mz_elab.specs.Joining.{plain_ends}
use Rattle.mz_elab.specs.Walking.{JoinsOr}
use Rattle.mz_elab.proofs.JoinsIn.{turned_names, not_joined}
use Rattle.mz_elab.proofs.joins.join_in.Goals as goal

pub returns-in_err-join : goal.returns-in_err-join
returns-in_err-join c =
    let D = plain_decls c.args.decls.now in
    let p = err_from_is_err_and c.from_residual.result c.from_residual.ensures.1 in
    subst (λ r. JoinsOr {A = Unit {0}} D (reverse c.args.bound.now) c.args.before.now c.args.to (plain_atoms c.args.giving.now) (plain_ends c.args.ends.items) c.args.state.now r) (sym (p.1 ∙ ap Err p.2))
    (not_joined D (IsKnown c.args.bound.now c.args.next) (reverse c.args.bound.now) c.args.before.now c.args.to (plain_atoms c.args.giving.now) c.as_mut_slice.result.now c.args.ends.items c.join_ends.new.ends c.args.state.now c.in_err-join.field-0.0 c.as_mut_slice.ensures.value (c.in_err-join.ensures (reverse c.args.bound.now) (turned_names c.args.bound.now)))

pub returns : goal.returns
returns c =
    let D = plain_decls c.args.decls.now in
    let joined = c.in_ok-join.ensures (reverse c.args.bound.now) (turned_names c.args.bound.now) in
    subst (λ ends. Joins D (reverse c.args.bound.now) c.args.before.now c.args.to (plain_atoms c.args.giving.now) (plain_ends ends) c.in_ok-state.field-0) c.as_mut_slice.ensures.value
    (subst (λ J. Joins D (reverse c.args.bound.now) c.args.before.now c.args.to (plain_atoms c.args.giving.now) (plain_ends c.as_mut_slice.result.now) J) (sym (c.in_ok-state.ensures ∙ c.in_ok-state_of.ensures ∙ ap plain_atoms c.as_slice.ensures)) joined)
