use Rattle.std.proofs.Common.{subst, arith, ◌∷◌}
use Rattle.mz_tree.specs.View.{plain_atom}
use Rattle.mz_goal.specs.Reaching.{Reaches, SaysEqual}
use Rattle.mz_goal.proofs.Reaching.{in_place, level_all}
use Rattle.mz_goal.proofs.naming.reach.Goals as goal

pub returns-in-Some : goal.returns-in-Some
returns-in-Some c =
    let a = plain_atom c.at.result.now in
    let x = c.args.from in
    let names = c.args.reached.now in
    let said = subst (λ o. Reaches o a x names c.loop-i.steps c.reach_over.new.steps) c.in-Some.is c.in_ok-name.ensures in
    record { equation = a; held = in_place c.args.state.now a c.loop-i.i c.at.ensures; joins = said.0; steps = subst (λ p. SaysEqual a x names c.in-Some.name p c.reach_over.new.steps) c.loop-i.invariant.1 said.1 }

pub returns : goal.returns
returns c = level_all c.args.state.now (c.args.from ∷ c.args.reached.now) c.loop-i.i (omega arith) c.loop-i.invariant.0
