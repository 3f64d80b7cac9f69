use Rattle.std.proofs.Common.{sym, subst}
use Rattle.mz_tree.specs.View.{plain_fun, plain_program}
use Rattle.mz_named.specs.Planning.{IsCallee}
use Rattle.mz_named.specs.View.{plain_value}
use Rattle.mz_named.proofs.Begins.{is_callee}
use Rattle.mz_named.proofs.bodies.callee_of.Goals as goal

pub returns : goal.returns
returns c = subst (λ v. IsCallee (plain_program c.args.program.now) (plain_value v) c.args.count (plain_fun c.in_ok-fun.fun.now)) (sym c.in-Fun.is)
    (is_callee c.args.program.now c.in-Fun.number c.args.count c.in_ok-fun.fun.now c.in_ok-sig.sig.now (sym c.in_ok-fun.ensures.value) (sym c.in_ok-sig.ensures.value) c.if-sig-count.false)
