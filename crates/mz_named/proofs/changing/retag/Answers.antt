use Rattle.mz_named.proofs.OneCell.{retag_acts}
use Rattle.mz_named.proofs.changing.retag.Goals as goal

pub set_con-requires : goal.set_con-requires
set_con-requires c = (c.args.old, c.in-Some.found.adopter, c.in-Some.found.fields.now, c.in-Some.ensures.stands)

pub returns-clause-does : goal.returns-clause-does
returns-clause-does c prints = retag_acts c.args.cells.now.items c.set_con.new.cells.items prints c.args.values.now c.args.block c.in-Some.found.name c.args.old c.in-Some.found.adopter c.in-Some.found.fields.now c.in-Some.ensures c.args.new
    (c.set_con.ensures.set c.args.old c.in-Some.found.adopter c.in-Some.found.fields.now c.in-Some.ensures.stands)
