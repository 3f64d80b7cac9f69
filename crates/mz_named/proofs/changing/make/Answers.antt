use Rattle.mz_named.proofs.OneCell.{make_acts}
use Rattle.mz_named.proofs.changing.make.Goals as goal

pub returns-clause-does : goal.returns-clause-does
returns-clause-does c prints = make_acts c.args.cells.now.items c.add.new.cells.items prints c.args.values.now c.args.con c.args.names.now c.in_ok-name.name c.in_ok-fields.fields c.in_ok-name.ensures.name c.in_ok-fields.ensures c.in_ok-name.ensures.added
