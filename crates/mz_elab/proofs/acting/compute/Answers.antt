use Rattle.std.proofs.Common.{ap, ◌∙◌, map}
use Rattle.mz_tree.specs.View.{plain_atom, plain_atoms}
use Rattle.mz_decl.specs.View.{plain_decls}
use Rattle.mz_deriv.specs.View.{plain_item}
use Rattle.mz_elab.specs.Standing.{IsKnown}
use Rattle.mz_elab.proofs.Acted.{computed, two_are}
use Rattle.mz_elab.proofs.acting.compute.Goals as goal

pub returns : goal.returns
returns c = λ op. computed (plain_decls c.args.decls.now) (IsKnown c.args.bound.now c.args.next) c.args.state.now c.args.next c.args.to c.args.place c.meet_then_add.new.state (map plain_item c.args.items.now) (map plain_item c.meet_then_add.new.items) op c.args.left c.args.right (plain_atoms c.as_slice.result.now) (plain_atom c.number-3.result) c.meet_then_add.result
    (ap plain_atoms c.as_slice.ensures ∙ c.in_ok-goals.ensures ∙ two_are _ _ _ _ c.number.ensures c.number-2.ensures) c.number-3.ensures c.meet_then_add.ensures
