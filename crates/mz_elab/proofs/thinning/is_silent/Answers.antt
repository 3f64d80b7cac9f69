use Rattle.mz_tree.specs.View.{plain_atom}
use Rattle.mz_elab.specs.Standing.{IsKnown}
use Rattle.mz_elab.proofs.NamedAlone.{atom_says}
use Rattle.mz_elab.proofs.Thin.{dropped}
use Rattle.mz_elab.proofs.thinning.is_silent.Goals as goal

pub returns-then-duplicable : goal.returns-then-duplicable
returns-then-duplicable c = λ D m e. dropped D (IsKnown c.args.bound.now c.args.next) c.in-Drop.atom _ c.duplicable.result c.atom_names.result c.in-Drop.is c.if-duplicable.true (c.duplicable.ensures D m) e (atom_says c.args.bound.now c.args.next (plain_atom c.in-Drop.atom) c.atom_names.result c.atom_names.ensures)
