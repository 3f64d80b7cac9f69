use Rattle.std.proofs.Common.{refl}
use Rattle.mz_tree.specs.View.{plain_fun, plain_program}
use Rattle.mz_named.proofs.Branches.{spawning}
use Rattle.mz_named.proofs.planning.spawn.Goals as goal

pub returns-in_ok-values-in-Some : goal.returns-in_ok-values-in-Some
returns-in_ok-values-in-Some c cells prints = (
  spawning (plain_program c.args.program.now) c.args.values.now c.args.callee c.value_of.result c.value_of.ensures 1 (plain_fun c.in-Some.fun.now) c.in-Some.ensures c.args.to c.args.arg c.in_ok-args-in-Some.args
      c.in_ok-frame-in-Some.frame c.in_ok-values-in-Some.values refl c.in_ok-args-in-Some.ensures c.in_ok-frame-in-Some.ensures c.in_ok-values-in-Some.ensures,
  refl,
  refl,
)
