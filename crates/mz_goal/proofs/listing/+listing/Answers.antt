use Rattle.std.proofs.Common.{◌≡◌, ◌++◌, IfOk, subst}
use Rattle.mz_view.proofs.Spotted.{lock_names}
use Rattle.mz_goal.proofs.Listed.{list_next}
use Rattle.mz_goal.proofs.listing.+listing.Goals as goal

pub list_atoms-loop-i-preserved : goal.list_atoms-loop-i-preserved
list_atoms-loop-i-preserved t c = list_next c.args.atoms.now c.loop-i.i c.index-atoms-i.result c.args.names.now c.loop-i.names c.list_atom.new.names c.loop-i-test.true c.index-atoms-i.is c.in_ok-list_atom.ensures c.loop-i.invariant

pub list_type-returns-in-Lock : goal.list_type-returns-in-Lock
list_type-returns-in-Lock t c = subst (λ l. IfOk c.list_atoms.result (λ _. c.list_atoms.new.names ≡ c.args.names.now ++ l)) (lock_names c.in-Lock.atoms c.as_slice-in-Lock.result.now c.args.ty.now c.as_slice-in-Lock.ensures c.in-Lock.is) c.list_atoms.ensures
