use Rattle.std.proofs.Common.{refl, sym}
use Rattle.mz_tree.specs.View.{plain_body, plain_cases}
use Rattle.mz_named.proofs.Branches.{branching, no_case}
use Rattle.mz_named.proofs.planning.select.Goals as goal

pub returns-in_ok-rest_of-in-Some-case_of : goal.returns-in_ok-rest_of-in-Some-case_of
returns-in_ok-rest_of-in-Some-case_of c p prints variety giving = (
  branching c.args.cells.now.items c.args.values.now c.args.block c.in-Some.found.name c.in-Some.found.con c.in-Some.found.adopter c.in-Some.found.fields.now c.in-Some.ensures c.args.to variety (plain_cases c.args.cases.now) giving
      (plain_body c.in-Some-case_of.body.now) c.in_ok-rest_of-in-Some-case_of.field-0 (sym c.in-Some-case_of.ensures) c.in_ok-rest_of-in-Some-case_of.ensures,
  refl,
  refl,
)

pub returns-in-None : goal.returns-in-None
returns-in-None c p prints variety giving = (
  no_case c.args.cells.now.items c.args.values.now c.args.block c.in-Some.found.name c.in-Some.found.con c.in-Some.found.adopter c.in-Some.found.fields.now c.in-Some.ensures c.args.to variety (plain_cases c.args.cases.now) giving p
      (sym c.in-None.ensures),
  refl,
  refl,
)
