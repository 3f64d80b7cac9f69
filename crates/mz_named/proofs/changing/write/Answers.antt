use Rattle.std.proofs.Common.{◌<◌, ap, subst, ◌∙◌, slice_set}
use Rattle.mz_named.proofs.OneCell.{write_acts}
use Rattle.mz_named.specs.declared.config.Cell.TheVariants as cell
use Rattle.mz_named.proofs.changing.write.Goals as goal

pub set_field-requires : goal.set_field-requires
set_field-requires c = (c.args.con, c.in-Some.found.adopter, c.in-Some.found.fields.now, c.in-Some.ensures.stands, subst (λ n. c.args.field < n) c.len.ensures c.if-field-len.false)

pub returns-clause-does : goal.returns-clause-does
returns-clause-does c prints =
    write_acts c.args.cells.now.items c.set_field.new.cells.items prints c.args.values.now c.args.block c.in-Some.found.name c.args.con c.in-Some.found.adopter c.in-Some.found.fields.now c.in-Some.ensures c.args.field c.args.from
    (subst (λ n. c.args.field < n) c.len.ensures c.if-field-len.false)
    (c.set_field.ensures.set c.args.con c.in-Some.found.adopter c.in-Some.found.fields.now c.in-Some.ensures.stands
    ∙ ap (λ v. slice_set c.args.cells.now.items c.in-Some.found.name (cell.Block c.args.con c.in-Some.found.adopter (slice_set c.in-Some.found.fields.now c.args.field v))) c.value_of.ensures)
