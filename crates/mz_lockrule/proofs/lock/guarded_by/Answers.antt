use Rattle.std.proofs.Common.{ap, option_map, option_copied}
use Rattle.mz_tree.specs.View.{plain_ty, plain_atom, plain_atoms}
use Rattle.mz_lockrule.proofs.Guarding.{of_name}
use Rattle.mz_lockrule.proofs.lock.guarded_by.Goals as goal

pub returns-then-name-lock : goal.returns-then-name-lock
returns-then-name-lock c = of_name c.args.lock c.in-Has.name (plain_ty c.in-Has.ty) (plain_atom c.args.atom.now) (option_map plain_atoms (option_copied c.guarded_at.result)) (ap plain_atom c.in-Has.is) c.if-name-lock.true c.guarded_at.ensures
