use Rattle.std.proofs.Common.{sym, ◌∙◌, arith, eq-eqb, ne_eqb}
use Rattle.mz_thread.proofs.Cases.{case_here, case_later, case_none}
use Rattle.mz_thread.proofs.lookups.find_case.Goals as goal

pub returns-then-cons-i : goal.returns-then-cons-i
returns-then-cons-i c = sym (case_here c.args.cons.now c.args.targets.now c.loop-i.i c.args.tag _ (omega arith) (sym c.in-Some.ensures) (eq-eqb _ _ c.if-cons-i.true)) ∙ c.loop-i.invariant.rest

pub returns-in-None : goal.returns-in-None
returns-in-None c = sym (case_none c.args.cons.now c.args.targets.now c.loop-i.i c.args.tag (sym c.in-None.ensures)) ∙ c.loop-i.invariant.rest

pub loop-i-preserved : goal.loop-i-preserved
loop-i-preserved c = record { rest = case_later c.args.cons.now c.args.targets.now c.loop-i.i c.args.tag _ (omega arith) (sym c.in-Some.ensures) (ne_eqb _ _ c.if-cons-i.false) ∙ c.loop-i.invariant.rest }
