use Rattle.mz_elab.proofs.CaseAt.{NoCaseBelow}
use Rattle.mz_elab.proofs.matching.case_of.Given as goal

abbrev pub invariant-loop-i : goal.invariant-loop-i
invariant-loop-i l = NoCaseBelow l.cases l.con l.i
