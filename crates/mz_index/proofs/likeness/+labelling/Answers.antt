use Rattle.std.proofs.Common.{sym, ap, ◌∙◌}
use Rattle.mz_tree.specs.Plain.{map_ty, map_atom}
use Rattle.mz_tree.specs.View.{plain_ty}
use Rattle.mz_index.specs.Labels.{label}
use Rattle.mz_perm.proofs.Locks.{map_lock}
use Rattle.mz_index.proofs.Found.{next_mapped}
use Rattle.mz_index.proofs.likeness.+labelling.Goals as goal

pub labelled_type-returns-in_ok-labelled_atoms-in-Lock : goal.labelled_type-returns-in_ok-labelled_atoms-in-Lock
labelled_type-returns-in_ok-labelled_atoms-in-Lock t c =
    map_lock (label c.args.links.now) c.in_ok-labelled_atoms-in-Lock.field-0 c.in-Lock.atoms c.as_slice-in-Lock.result.now c.in_ok-labelled_atoms-in-Lock.ensures c.as_slice-in-Lock.ensures
    ∙ sym (ap (λ t. map_ty (label c.args.links.now) (plain_ty t)) c.in-Lock.is)

pub labelled_atoms-loop-i-preserved : goal.labelled_atoms-loop-i-preserved
labelled_atoms-loop-i-preserved t c = next_mapped (map_atom (label c.args.links.now)) c.args.atoms.now c.loop-i.done c.push.new.self c.loop-i.i c.index-atoms-i.result c.in_ok-labelled_atom.field-0 c.loop-i-test.true c.index-atoms-i.is c.in_ok-push.ensures.ok c.in_ok-labelled_atom.ensures c.loop-i.invariant
