use Rattle.std.proofs.Common.{arith}
use Rattle.mz_script.proofs.FirstLines.{found_at, one_more_at, all_at}
use Rattle.mz_script.proofs.read.lines.cut.Goals as goal

pub returns-then-bytes-i-eq10 : goal.returns-then-bytes-i-eq10
returns-then-bytes-i-eq10 c = found_at c.args.bytes.now c.loop-i.i (omega arith) c.loop-i.invariant c.if-bytes-i-eq10.true

pub loop-i-preserved : goal.loop-i-preserved
loop-i-preserved c = one_more_at c.args.bytes.now c.loop-i.i (omega arith) c.loop-i.invariant c.if-bytes-i-eq10.false

pub returns : goal.returns
returns c = all_at c.args.bytes.now c.loop-i.i (omega arith) c.loop-i.invariant c.if-bytes-eq0.false
