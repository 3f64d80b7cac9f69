use Rattle.std.proofs.Common.{sym, ap, ◌∙◌}
use Rattle.mz_tree.specs.Plain.{map_ty}
use Rattle.mz_tree.specs.View.{plain_ty}
use Rattle.mz_tree.specs.Renaming.{name_at}
use Rattle.mz_perm.proofs.Locks.{map_lock}
use Rattle.mz_perm.proofs.renaming.+substitution.Goals as goal

pub rename_type-returns-in_ok-rename_atoms-in-Lock : goal.rename_type-returns-in_ok-rename_atoms-in-Lock
rename_type-returns-in_ok-rename_atoms-in-Lock t c =
    map_lock (name_at c.args.to.now) c.in_ok-rename_atoms-in-Lock.field-0 c.in-Lock.atoms c.as_slice-in-Lock.result.now c.in_ok-rename_atoms-in-Lock.ensures c.as_slice-in-Lock.ensures
    ∙ sym (ap (λ t. map_ty (name_at c.args.to.now) (plain_ty t)) c.in-Lock.is)
