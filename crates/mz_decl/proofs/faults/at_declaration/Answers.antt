use Rattle.std.proofs.Common.{sym}
use Rattle.mz_decl.proofs.Adopters.{on_declaration}
use Rattle.mz_decl.proofs.faults.at_declaration.Goals as goal

pub returns-in-Some-adopts : goal.returns-in-Some-adopts
returns-in-Some-adopts c = on_declaration c.args.program.now c.args.number c.in-Some-adopts.field-0 c.in-Some.variety.now (sym c.in-Some.ensures.value) c.if-variety.false c.in-Some-adopts.is
