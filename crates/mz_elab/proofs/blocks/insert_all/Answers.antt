use Rattle.std.proofs.Common.{ap}
use Rattle.mz_tree.specs.View.{plain_atom, plain_atoms}
use Rattle.mz_elab.proofs.Inserted.{inserting_next, inserted, plain_last}
use Rattle.mz_elab.proofs.blocks.insert_all.Goals as goal

pub loop-atom-preserved : goal.loop-atom-preserved
loop-atom-preserved c = inserting_next c.args.state.now (plain_atoms c.args.atoms) c.args.place (plain_atoms c.loop-atom.left) (plain_atoms c.pop.new.self) c.loop-atom.state c.insert.new.self (plain_atom c.in-Some.atom) c.loop-atom.invariant (plain_last c.loop-atom.left c.pop.new.self c.in-Some.atom c.in-Some.ensures) c.in_ok-insert.ensures.inserted

pub returns : goal.returns
returns c = inserted c.args.state.now (plain_atoms c.args.atoms) c.args.place (plain_atoms c.loop-atom.left) c.loop-atom.state c.loop-atom.invariant (ap plain_atoms c.in_default.ensures.0)
