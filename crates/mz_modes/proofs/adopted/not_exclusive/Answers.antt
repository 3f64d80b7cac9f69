use Rattle.mz_decl.specs.View.{plain_decls}
use Rattle.mz_modes.proofs.Clauses.{first_fault}
use Rattle.mz_modes.proofs.adopted.not_exclusive.Goals as goal

pub returns : goal.returns
returns c = first_fault (plain_decls c.args.decls.now) c.first_declaration.result c.first_structure.result c.earlier.result c.first_declaration.ensures c.first_structure.ensures c.earlier.ensures
