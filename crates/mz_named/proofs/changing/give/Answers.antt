use Rattle.mz_named.proofs.OneCell.{give_acts}
use Rattle.mz_named.proofs.changing.give.Goals as goal

pub set_adopter-requires : goal.set_adopter-requires
set_adopter-requires c = (c.in-Some.given.con, c.in-Some.given.adopter, c.in-Some.given.fields.now, c.in-Some.ensures.stands)

pub returns-in-None-clause-does : goal.returns-in-None-clause-does
returns-in-None-clause-does c prints =
    give_acts c.args.cells.now.items c.set_adopter.new.cells.items prints c.args.values.now c.args.block c.in-Some.given.name c.in-Some.given.con c.in-Some.given.adopter c.in-Some.given.fields.now c.in-Some.ensures
    c.args.adopter c.in-Some-block_of.pool.name c.in-Some-block_of.pool.con c.in-Some-block_of.pool.adopter c.in-Some-block_of.pool.fields.now c.in-Some-block_of.ensures c.in-None.is
    (c.set_adopter.ensures.set c.in-Some.given.con c.in-Some.given.adopter c.in-Some.given.fields.now c.in-Some.ensures.stands)
