use Rattle.std.proofs.Common.{refl}
use Rattle.mz_tree.specs.View.{plain_fun, plain_program}
use Rattle.mz_named.proofs.Branches.{calling}
use Rattle.mz_named.proofs.planning.call.Goals as goal

pub returns-in_ok-start-in-Some : goal.returns-in_ok-start-in-Some
returns-in_ok-start-in-Some c cells prints = (
  calling (plain_program c.args.program.now) c.args.values.now c.args.to c.args.callee c.args.args.now c.value_of.result (plain_fun c.in-Some.fun.now) c.in_ok-args-in-Some.args c.in_ok-start-in-Some.field-0
      c.value_of.ensures c.in-Some.ensures c.in_ok-args-in-Some.ensures c.in_ok-start-in-Some.ensures,
  refl,
  refl,
)
