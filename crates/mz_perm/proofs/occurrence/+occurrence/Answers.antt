use Rattle.std.proofs.Common.{sym, ap, ◌∙◌}
use Rattle.mz_tree.specs.View.{plain_ty}
use Rattle.mz_perm.specs.Occurrence.{in_type}
use Rattle.mz_perm.proofs.Locks.{in_lock}
use Rattle.mz_perm.proofs.occurrence.+occurrence.Goals as goal

pub in_type-returns-in-Lock : goal.in_type-returns-in-Lock
in_type-returns-in-Lock t c = c.in_atoms.ensures ∙ in_lock c.args.name c.in-Lock.atoms c.as_slice-in-Lock.result.now c.as_slice-in-Lock.ensures ∙ sym (ap (λ t. in_type c.args.name (plain_ty t)) c.in-Lock.is)
