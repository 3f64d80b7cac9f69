use Rattle.mz_tree.specs.View.{plain_atom}
use Rattle.mz_decl.specs.View.{plain_decls}
use Rattle.mz_elab.proofs.AllGiving.{at_index}
use Rattle.mz_elab.proofs.AllTried.{trying_next, trying_not}
use Rattle.mz_elab.proofs.trying.would_all.Goals as goal

pub returns-then-not-branch : goal.returns-then-not-branch
returns-then-not-branch c = trying_not (plain_decls c.args.decls.now) c.args.to (plain_atom c.args.goal.now) c.args.ends.now c.loop-k.k c.index-ends-k.result c.in_ok-would.field-0 c.loop-k.invariant (at_index c.args.ends.now c.loop-k.k c.index-ends-k.result c.loop-k-test.true c.index-ends-k.is) c.if-not-branch.true c.in_ok-would.ensures

pub loop-k-preserved : goal.loop-k-preserved
loop-k-preserved c = trying_next (plain_decls c.args.decls.now) c.args.to (plain_atom c.args.goal.now) c.args.ends.now c.loop-k.k c.index-ends-k.result c.in_ok-would.field-0 c.loop-k.invariant (at_index c.args.ends.now c.loop-k.k c.index-ends-k.result c.loop-k-test.true c.index-ends-k.is) c.if-not-branch.false c.in_ok-would.ensures
