use Rattle.std.proofs.Common.{Err, ap, ◌∙◌, subst}
use Rattle.mz_tree.specs.View.{plain_atom}
use Rattle.mz_decl.specs.View.{plain_decls}
use Rattle.mz_elab.specs.Standing.{IsKnown}
use Rattle.mz_elab.specs.Joining.{AllGoOn}
use Rattle.mz_elab.proofs.AllTried.{all_met}
use Rattle.mz_elab.proofs.trying.try_all.Goals as goal

pub unreachable-requires : goal.unreachable-requires
unreachable-requires c =
    let D = plain_decls c.args.decls.now in
    let g = plain_atom c.args.goal.now in
    all_met D c.args.to g c.args.ends.now c.in_ok-would_all.field-0 c.in-Err-NoPermission.field-0-0 (plain_atom c.in-Err-NoPermission.field-0-1) c.if-not-branch.false c.in_ok-would_all.ensures (subst (λ r. AllGoOn D (IsKnown c.args.bound.now c.args.next) c.args.to g c.args.ends.now c.give.new.ends r) (c.in-Err-NoPermission.is ∙ ap Err c.in-Err-NoPermission.field-0-is) c.give.ensures)
