use Rattle.std.proofs.Common.{refl, sym, subst}
use Rattle.mz_tree.specs.View.{plain_ty}
use Rattle.mz_elab.specs.Acting.{GuardsSome}
use Rattle.mz_elab.proofs.finding.is_lock.Goals as goal

pub returns-in-Lock : goal.returns-in-Lock
returns-in-Lock c = subst (λ z. GuardsSome (plain_ty z)) (sym c.in-Lock.is) (_, refl)
