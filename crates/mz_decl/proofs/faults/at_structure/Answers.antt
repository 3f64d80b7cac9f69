use Rattle.std.proofs.Common.{sym}
use Rattle.mz_decl.proofs.Adopters.{on_structure}
use Rattle.mz_decl.proofs.faults.at_structure.Goals as goal

pub returns-else-variety : goal.returns-else-variety
returns-else-variety c = on_structure c.args.program.now c.args.number c.in-Some.clause.now c.in-Some-get.con.now c.in-Some-get-2.variety.now (sym c.in-Some.ensures.value) (sym c.in-Some-get.ensures.value) (sym c.in-Some-get-2.ensures.value) c.if-variety.false
