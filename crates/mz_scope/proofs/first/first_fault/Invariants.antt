use Rattle.mz_scope.proofs.FaultOrder.{FirstOf}
use Rattle.mz_scope.proofs.first.first_fault.Given as goal

abbrev pub invariant-loop-i : goal.invariant-loop-i
invariant-loop-i l = FirstOf l.faults l.i l.first
