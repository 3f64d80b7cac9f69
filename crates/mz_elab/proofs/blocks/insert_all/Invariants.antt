use Rattle.std.proofs.Common.{length}
use Rattle.mz_tree.specs.View.{plain_atoms}
use Rattle.mz_elab.proofs.Inserted.{Inserting}
use Rattle.mz_elab.proofs.blocks.insert_all.Given as goal

abbrev pub invariant-loop-atom : goal.invariant-loop-atom
invariant-loop-atom l = Inserting l.initial.state (plain_atoms l.initial.left) l.place (plain_atoms l.left) l.state

abbrev pub decreases-loop-atom : goal.decreases-loop-atom
decreases-loop-atom l = length l.left
