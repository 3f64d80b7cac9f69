use Rattle.std.proofs.Common.{ap}
use Rattle.mz_tree.specs.View.{plain_ty, plain_atom}
use Rattle.mz_decl.specs.View.{plain_decls}
use Rattle.mz_adopt.proofs.Adopters.{of_name}
use Rattle.mz_adopt.proofs.adopter.adopted_by.Goals as goal

pub returns-then-name-adopter : goal.returns-then-name-adopter
returns-then-name-adopter c = of_name (plain_decls c.args.decls.now) c.args.adopter c.in-Has.name (plain_ty c.in-Has.ty) (plain_atom c.args.atom.now) c.adopted_at.result (ap plain_atom c.in-Has.is) c.if-name-adopter.true c.adopted_at.ensures
