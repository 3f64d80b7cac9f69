use Rattle.std.proofs.Common.{arith}
use Rattle.mz_decl.specs.View.{plain_decls}
use Rattle.mz_view.proofs.Listed.{exclusive_at, exclusive_next, exclusive_none}
use Rattle.mz_view.proofs.adding.holds_exclusive.Goals as goal

pub returns-then-is_exclusive : goal.returns-then-is_exclusive
returns-then-is_exclusive c = exclusive_at (plain_decls c.args.decls.now) c.args.atoms.now c.loop-i.i c.args.name c.index-atoms-i.result c.loop-i-test.true c.index-atoms-i.is c.if-is_exclusive.ensures

pub loop-i-preserved : goal.loop-i-preserved
loop-i-preserved c = exclusive_next (plain_decls c.args.decls.now) c.args.atoms.now c.loop-i.i c.args.name c.index-atoms-i.result c.loop-i-test.true c.index-atoms-i.is c.if-is_exclusive.ensures c.loop-i.invariant

pub returns : goal.returns
returns c = exclusive_none (plain_decls c.args.decls.now) c.args.atoms.now c.loop-i.i c.args.name c.loop-i-test.false c.loop-i.invariant
