use Rattle.mz_tree.specs.View.{plain_atom, plain_atoms}
use Rattle.mz_decl.specs.View.{plain_decls}
use Rattle.mz_elab.specs.Standing.{IsKnown}
use Rattle.mz_elab.proofs.PutBack.{back_start, back_next}
use Rattle.mz_elab.proofs.restoring.restore.Goals as goal

pub loop-i-init : goal.loop-i-init
loop-i-init c = back_start (plain_decls c.args.decls.now) (IsKnown c.args.bound.now c.args.next) c.args.to c.args.before.now (plain_atoms c.args.join.now) c.args.ends.now

pub loop-i-preserved : goal.loop-i-preserved
loop-i-preserved c = back_next (plain_decls c.args.decls.now) (IsKnown c.args.bound.now c.args.next) c.args.to c.args.before.now (plain_atoms c.args.join.now) c.args.ends.now c.loop-i.i (plain_atom c.at-atom.result.now) c.loop-i.ends c.restore_one.new.ends (plain_atoms c.loop-i.join) (plain_atoms c.restore_one.new.join) c.loop-i.invariant c.at-atom.ensures c.in_ok-restore_one.ensures
