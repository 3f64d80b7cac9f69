use Rattle.std.proofs.Common.{ap, ◌∙◌, map}
use Rattle.mz_tree.specs.Plain.{Has_atom, Lock_type, atoms_of}
use Rattle.mz_tree.specs.View.{plain_atoms}
use Rattle.mz_tree.proofs.Views.{plain_lock}
use Rattle.mz_decl.specs.View.{plain_decls}
use Rattle.mz_deriv.specs.View.{plain_item}
use Rattle.mz_elab.specs.Standing.{IsKnown}
use Rattle.mz_elab.proofs.Acted.{locked}
use Rattle.mz_elab.proofs.acting.make_lock.Goals as goal

pub returns : goal.returns
returns c = locked (plain_decls c.args.decls.now) (IsKnown c.args.bound.now c.args.next) c.args.state.now c.args.next c.args.to c.args.place c.meet_then_add.new.state (map plain_item c.args.items.now) (map plain_item c.meet_then_add.new.items) (plain_atoms c.args.guarded.now) (plain_atoms c.as_slice-goals.result.now) _ c.meet_then_add.result
    (ap plain_atoms c.as_slice-goals.ensures) (ap (Has_atom c.args.to) (plain_lock c.in_ok-copy.field-0 ∙ ap (λ l. Lock_type (atoms_of (plain_atoms l))) c.in_ok-copy.ensures)) c.meet_then_add.ensures
