use Rattle.std.proofs.Common.{sym, ap, ◌∙◌}
use Rattle.mz_tree.specs.Plain.{map_ty}
use Rattle.mz_tree.specs.View.{plain_ty}
use Rattle.mz_perm.proofs.Locks.{map_lock}
use Rattle.mz_deriv.specs.Walks.{in_place_of}
use Rattle.mz_elab.proofs.values.+values.Goals as goal

pub type_with-returns-in_ok-atoms_with-in-Lock : goal.type_with-returns-in_ok-atoms_with-in-Lock
type_with-returns-in_ok-atoms_with-in-Lock t c =
    let f = in_place_of c.args.old c.args.new in
    map_lock f c.in_ok-atoms_with-in-Lock.field-0 c.in-Lock.atoms c.as_slice-in-Lock.result.now c.in_ok-atoms_with-in-Lock.ensures c.as_slice-in-Lock.ensures ∙ sym (ap (λ z. map_ty f (plain_ty z)) c.in-Lock.is)
