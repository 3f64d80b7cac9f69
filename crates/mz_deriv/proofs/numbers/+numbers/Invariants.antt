use Rattle.mz_deriv.specs.Numbers.{ItemNumbers, OneNumbers}
use Rattle.mz_deriv.specs.View.{plain_item, plain_script_case}
use Rattle.mz_deriv.proofs.ReadNumbers.{Before}
use Rattle.mz_deriv.proofs.numbers.+numbers.Given as goal

abbrev pub invariant-read_items-loop-i : goal.invariant-read_items-loop-i
invariant-read_items-loop-i l = Before (λ x. ItemNumbers (plain_item x)) l.items l.i

abbrev pub invariant-read_cases-loop-k : goal.invariant-read_cases-loop-k
invariant-read_cases-loop-k l = Before (λ x. OneNumbers (plain_script_case x)) l.cases l.k
