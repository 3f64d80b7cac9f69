use Rattle.std.proofs.Common.{[], ◌∷◌, ap, ◌∙◌, map}
use Rattle.mz_tree.specs.View.{plain_atoms}
use Rattle.mz_decl.specs.View.{plain_decls}
use Rattle.mz_deriv.specs.View.{plain_item}
use Rattle.mz_elab.specs.Standing.{IsKnown}
use Rattle.mz_elab.proofs.Acted.{printed}
use Rattle.mz_elab.proofs.acting.print.Goals as goal

pub returns : goal.returns
returns c = printed (plain_decls c.args.decls.now) (IsKnown c.args.bound.now c.args.next) c.args.state.now c.args.next c.args.to c.args.place c.meet_then_add.new.state (map plain_item c.args.items.now) (map plain_item c.meet_then_add.new.items) c.args.source (plain_atoms c.as_slice.result.now) c.meet_then_add.result
    (ap plain_atoms c.as_slice.ensures ∙ c.in_ok-goals.ensures ∙ ap (λ a. a ∷ []) c.number.ensures) c.meet_then_add.ensures
