use Rattle.std.proofs.Common.{map, subst, arith}
use Rattle.mz_deriv.specs.Numbers.{ItemNumbers, OneNumbers, AreNumbers}
use Rattle.mz_deriv.specs.View.{plain_item, plain_script_case}
use Rattle.mz_deriv.proofs.ReadNumbers.{before_next, all_items, all_cases, chain_of, do_numbers}
use Rattle.mz_deriv.proofs.numbers.+numbers.Goals as goal

pub read_items-loop-i-init : goal.read_items-loop-i-init
read_items-loop-i-init t c = λ k x l g. absurd (omega (arith, l))

pub read_items-loop-i-preserved : goal.read_items-loop-i-preserved
read_items-loop-i-preserved t c = before_next (λ x. ItemNumbers (plain_item x)) c.args.items.now c.loop-i.i c.index-items-i.result c.loop-i-test.true c.index-items-i.is c.loop-i.invariant c.read_item.ensures

pub read_items-returns : goal.read_items-returns
read_items-returns t c = all_items c.args.items.now c.loop-i.i (omega arith) c.loop-i.invariant

pub read_item-returns-in-Do : goal.read_item-returns-in-Do
read_item-returns-in-Do t c = do_numbers c.args.item.now c.in-Do.uses c.in-Do.cases c.as_slice.result.now c.in-Do.join c.in-Do.is c.as_slice.ensures c.read_cases.ensures

pub read_cases-loop-k-init : goal.read_cases-loop-k-init
read_cases-loop-k-init t c = λ k x l g. absurd (omega (arith, l))

pub read_cases-loop-k-preserved : goal.read_cases-loop-k-preserved
read_cases-loop-k-preserved t c = before_next (λ x. OneNumbers (plain_script_case x)) c.args.cases.now c.loop-k.k c.index-cases-k.result c.loop-k-test.true c.index-cases-k.is c.loop-k.invariant c.read_case.ensures

pub read_cases-returns : goal.read_cases-returns
read_cases-returns t c = all_cases c.args.cases.now c.loop-k.k (omega arith) c.loop-k.invariant

pub read_case-returns : goal.read_case-returns
read_case-returns t c = (c.read_number.ensures, chain_of (map plain_item c.args.case.now.body.items) (subst (λ l. AreNumbers (map plain_item l)) c.as_slice.ensures c.read_items.ensures))
