use Rattle.std.proofs.Common.{refl, sym}
use Rattle.mz_named.proofs.OneCell.{read_acts, read_stuck}
use Rattle.mz_named.proofs.quiet.read.Goals as goal

pub returns-in-Some-get : goal.returns-in-Some-get
returns-in-Some-get c prints = read_acts c.args.cells.now.items prints c.args.values.now c.args.block c.in-Some.found.name c.args.con c.in-Some.found.adopter c.in-Some.found.fields.now c.in-Some.ensures c.args.field c.in-Some-get.value.now (sym c.in-Some-get.ensures.value)

pub returns-in-None : goal.returns-in-None
returns-in-None c prints = (read_stuck c.args.cells.now.items c.args.values.now c.args.block c.in-Some.found.name c.args.con c.in-Some.found.adopter c.in-Some.found.fields.now c.in-Some.ensures c.args.field (sym c.in-None.ensures.value), refl, refl)
