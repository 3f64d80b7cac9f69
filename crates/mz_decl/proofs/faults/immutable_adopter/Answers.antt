use Rattle.mz_decl.proofs.Adopters.{first_fault}
use Rattle.mz_decl.proofs.faults.immutable_adopter.Goals as goal

pub returns : goal.returns
returns c = first_fault c.args.program.now c.first_declaration.result c.first_structure.result c.earlier.result c.first_declaration.ensures c.first_structure.ensures c.earlier.ensures
