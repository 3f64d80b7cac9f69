use Rattle.std.proofs.Common.{refl}
use Rattle.mz_tree.specs.View.{plain_atom}
use Rattle.mz_perm.specs.Occurrence.{in_atom}
use Rattle.mz_elab.proofs.MadeNames.{adding_next, of_atoms}
use Rattle.mz_elab.proofs.naming.outer_names.Goals as goal

pub loop-i-preserved : goal.loop-i-preserved
loop-i-preserved c = adding_next of_atoms (λ a n. in_atom n a) c.args.before.now c.in_ok-outer.outer c.loop-i.i (plain_atom c.at.result.now) c.loop-i.outer c.add_atom.new.names (λ y ys n. refl) c.loop-i.invariant c.at.ensures c.in_ok-add_atom.ensures
