use Rattle.std.proofs.Common.{arith}
use Rattle.mz_tree.specs.View.{plain_atom, plain_atoms}
use Rattle.mz_elab.proofs.Shared.{sharing_start, sharing_next, sharing_end}
use Rattle.mz_elab.proofs.sharing.share.Goals as goal

pub loop-i-init : goal.loop-i-init
loop-i-init c = λ D names R m o. sharing_start D names R c.args.these.now (plain_atoms c.args.join.now) c.args.ends.now

pub loop-i-preserved : goal.loop-i-preserved
loop-i-preserved c = λ D names R m o. sharing_next D names R c.args.these.now (plain_atoms c.args.join.now) c.args.ends.now c.loop-i.i (plain_atom c.at-atom.result.now) c.loop-i.ends c.share_one.new.ends (plain_atoms c.loop-i.join) (plain_atoms c.share_one.new.join) (c.loop-i.invariant D names R m o) c.at-atom.ensures (c.in_ok-share_one.ensures D names R m o)

pub returns : goal.returns
returns c = λ D names R m o. sharing_end D names R c.args.these.now (plain_atoms c.args.join.now) c.args.ends.now c.loop-i.i c.loop-i.ends (plain_atoms c.loop-i.join) (c.loop-i.invariant D names R m o) (omega (arith, c.loop-i-test.false, c.len-i-end.ensures))
