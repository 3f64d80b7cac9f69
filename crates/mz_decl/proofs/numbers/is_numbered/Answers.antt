use Rattle.std.proofs.Common.{refl, ap, arith}
use Rattle.mz_tree.specs.declared.program.Con.{Con as CodeCon}
use Rattle.mz_decl.proofs.Limits.{below_next, numbered_all, not_numbered}
use Rattle.mz_decl.proofs.numbers.is_numbered.Goals as goal

pub returns-then-all-i : goal.returns-then-all-i
returns-then-all-i c = (λ t. absurd (cc), λ r. absurd (not_numbered c.args.program.now c.len-count.result c.as_slice-all.result.now c.loop-i.i c.index-all-i.result c.as_slice-all.ensures c.len-count.ensures (omega arith) c.index-all-i.is (omega (arith, c.if-all-i.true, ap (λ (x : CodeCon). x.variety) c.index-all-i.is)) r))

pub loop-i-preserved : goal.loop-i-preserved
loop-i-preserved c = below_next c.len-count.result c.as_slice-all.result.now c.loop-i.i c.index-all-i.result (omega arith) c.index-all-i.is (omega (arith, c.if-all-i.false, ap (λ (x : CodeCon). x.variety) c.index-all-i.is)) c.loop-i.invariant

pub returns : goal.returns
returns c = (λ _. numbered_all c.args.program.now c.len-count.result c.as_slice-all.result.now c.loop-i.i c.as_slice-all.ensures c.len-count.ensures (omega arith) (omega arith) (omega arith) (omega arith) (omega arith) c.loop-i.invariant, λ _. refl)
