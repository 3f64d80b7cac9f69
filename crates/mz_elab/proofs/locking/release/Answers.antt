use Rattle.std.proofs.Common.{ap, ◌∙◌}
use Rattle.mz_tree.specs.View.{plain_atoms}
use Rattle.mz_decl.specs.View.{plain_decls}
use Rattle.mz_elab.proofs.Locks.{released}
use Rattle.mz_elab.proofs.locking.release.Goals as goal

pub returns : goal.returns
returns c = released (plain_decls c.args.decls.now) c.args.state.now c.args.next c.args.to c.args.lock c.args.place (plain_atoms c.in_ok-guarded.guarded) c.meet_then_use.new.state (plain_atoms c.as_slice.result.now) c.meet_then_use.result
    (c.in_ok-guarded.ensures c.args.lock c.in_ok-at.ensures) (ap plain_atoms c.as_slice.ensures ∙ c.in_ok-goals.ensures) c.meet_then_use.ensures
